-- Whether a part of a sheet is well formed does not depend on its offsets, nor on those of the other parts.
use Rattle.std.proofs.Common.{◌≡◌, ℕ, ◌≤◌, true, List, [], ◌∷◌, map, refl, ap, ◌∙◌}
use Rattle.rc_sheet_spec.specs.Sheet.{card_sort, game_class, player_class, team_class, CardExpr, card_var, top_card, bottom_card, max_card, min_card, CollExpr, group_var, cards_in, filtered, union_of, known_in, CollExprs, no_coll, coll, IntExpr, literal, number, size_of, sum_of, worth_of, add, subtract, multiply, Test, eq_int, eq_card, eq_attr, eq_who, ne, less, less_eq, more, more_eq, has_value, and_of, or_of, not_of, all_of, any_of, Tests, no_test, test, Domain, each_player, each_card, each_group, Effect, move, move_all, remember, forget, shuffle, set_to, increase, decrease, when, repeat, for_each, next_is, turn_round, peek, Effects, no_effect, effect, Alt, do_alt, if_alt, any_alt, SheetItem, do_item, stage, choice, SheetItems, no_item, item, Sheet}
use Rattle.rc_sheet_spec.specs.Naming.{sort_of}
use Rattle.rc_sheet_spec.specs.WellFormed.{Around, in_stage, in_repeat, is_equality, behind, IsCard, IsColl, AreColls, IsInt, IsTest, AreTests, IsRange, IsDomain, IsEffect, AreEffects, IsAlt, AreAlts, IsItem, AreItems}
use Rattle.rc_print.specs.Unplaced.{card_unplaced, coll_unplaced, colls_unplaced, int_unplaced, test_unplaced, tests_unplaced, domain_unplaced, effect_unplaced, effects_unplaced, alt_unplaced, item_unplaced, items_unplaced}
use Rattle.rc_print.proofs.CopiedExpressions.{same_sort}
use Rattle.rc_sheet.proofs.Moved.Sheet.{with_body}
use Rattle.rc_sheet.proofs.Unplaced.Mentions.{colls_count, tests_count, effects_count, alts_count, items_count}

-- several demands
both : {A A' B B' : Type 0} → A ≡ A' → B ≡ B' → (A × B) ≡ (A' × B')
both first second = λ i. first i × second i

three : {A A' B B' C C' : Type 0} → A ≡ A' → B ≡ B' → C ≡ C' → (A × B × C) ≡ (A' × B' × C')
three first second third = λ i. first i × second i × third i

four : {A A' B B' C C' D D' : Type 0} → A ≡ A' → B ≡ B' → C ≡ C' → D ≡ D' → (A × B × C × D) ≡ (A' × B' × C' × D')
four first second third fourth = λ i. first i × second i × third i × fourth i

-- at least so many parts
least : {n n' : ℕ} (m : ℕ) → n ≡ n' → (m ≤ n) ≡ (m ≤ n')
least m same = ap (λ n. m ≤ n) same

equality_alike : (t : Test) → is_equality (test_unplaced t) ≡ is_equality t
equality_alike (has_value card attr value) = refl
equality_alike t = refl

module _ (sheet : Sheet) (others : SheetItems) (score : IntExpr) where
  -- a sheet with the same names and the same setup
  abbrev other : Sheet
  other = with_body sheet others score

  mutual
    card_is : (around : Around) (card : CardExpr) → IsCard other around (card_unplaced card) ≡ IsCard sheet around card
    card_is around (card_var var) = refl
    card_is around (top_card cards) = coll_is around cards
    card_is around (bottom_card cards) = coll_is around cards
    card_is around (max_card cards map) = both (coll_is around cards) refl
    card_is around (min_card cards map) = both (coll_is around cards) refl

    coll_is : (around : Around) (cards : CollExpr) → IsColl other around (coll_unplaced cards) ≡ IsColl sheet around cards
    coll_is around (group_var var) = refl
    coll_is around (cards_in loc) = refl
    coll_is around (filtered cards var t) =
        three (coll_is around cards) refl (test_is (behind sheet around var card_sort) t)
    coll_is around (union_of parts) = both (least 2 (colls_count parts)) (colls_are around parts)
    coll_is around (known_in loc) = refl

    colls_are : (around : Around) (parts : CollExprs) → AreColls other around (colls_unplaced parts) ≡ AreColls sheet around parts
    colls_are around no_coll = refl
    colls_are around (coll cards parts) = both (coll_is around cards) (colls_are around parts)

    pub int_is : (around : Around) (int : IntExpr) → IsInt other around (int_unplaced int) ≡ IsInt sheet around int
    int_is around (literal value) = refl
    int_is around (number num) = refl
    int_is around (size_of cards) = coll_is around cards
    int_is around (sum_of cards map) = both (coll_is around cards) refl
    int_is around (worth_of card map) = both (card_is around card) refl
    int_is around (add a b) = both (int_is around a) (int_is around b)
    int_is around (subtract a b) = both (int_is around a) (int_is around b)
    int_is around (multiply a b) = both (int_is around a) (int_is around b)

    test_is : (around : Around) (t : Test) → IsTest other around (test_unplaced t) ≡ IsTest sheet around t
    test_is around (eq_int a b) = both (int_is around a) (int_is around b)
    test_is around (eq_card a b) = both (card_is around a) (card_is around b)
    test_is around (eq_attr a attr b attr') = four (card_is around a) refl (card_is around b) refl
    test_is around (eq_who who who') = refl
    test_is around (ne t) = both (ap (λ b. b ≡ true) (equality_alike t)) (test_is around t)
    test_is around (less a b) = both (int_is around a) (int_is around b)
    test_is around (less_eq a b) = both (int_is around a) (int_is around b)
    test_is around (more a b) = both (int_is around a) (int_is around b)
    test_is around (more_eq a b) = both (int_is around a) (int_is around b)
    test_is around (has_value card attr value) = three (card_is around card) refl refl
    test_is around (and_of tests) = both (least 1 (tests_count tests)) (tests_are around tests)
    test_is around (or_of tests) = both (least 1 (tests_count tests)) (tests_are around tests)
    test_is around (not_of t) = test_is around t
    test_is around (all_of domain var t) =
        three (range_is around domain) refl
        (ap (λ sort. IsTest other (behind other around var sort) (test_unplaced t)) (same_sort domain)
        ∙ test_is (behind sheet around var (sort_of domain)) t)
    test_is around (any_of domain var t) =
        three (range_is around domain) refl
        (ap (λ sort. IsTest other (behind other around var sort) (test_unplaced t)) (same_sort domain)
        ∙ test_is (behind sheet around var (sort_of domain)) t)

    tests_are : (around : Around) (tests : Tests) → AreTests other around (tests_unplaced tests) ≡ AreTests sheet around tests
    tests_are around no_test = refl
    tests_are around (test t tests) = both (test_is around t) (tests_are around tests)

    range_is : (around : Around) (domain : Domain) → IsRange other around (domain_unplaced domain) ≡ IsRange sheet around domain
    range_is around each_player = refl
    range_is around (each_card cards) = coll_is around cards
    range_is around (each_group cards attr) = refl

  domain_is : (around : Around) (domain : Domain) → IsDomain other around (domain_unplaced domain) ≡ IsDomain sheet around domain
  domain_is around each_player = refl
  domain_is around (each_card cards) = coll_is around cards
  domain_is around (each_group cards attr) = both (coll_is around cards) refl

  mutual
    effect_is : (around : Around) (e : Effect) → IsEffect other around (effect_unplaced e) ≡ IsEffect sheet around e
    effect_is around (move card end loc) = both (card_is around card) refl
    effect_is around (move_all cards end loc) = both (coll_is around cards) refl
    effect_is around (remember card end loc) = both (card_is around card) refl
    effect_is around (forget card) = card_is around card
    effect_is around (shuffle loc) = refl
    effect_is around (set_to num value) = both refl (int_is around value)
    effect_is around (increase num value) = both refl (int_is around value)
    effect_is around (decrease num value) = both refl (int_is around value)
    effect_is around (when t effects) = three (test_is around t) (least 1 (effects_count effects)) (effects_are around effects)
    effect_is around (repeat times effects) =
        four (int_is around times) refl (least 1 (effects_count effects)) (effects_are (in_repeat around) effects)
    effect_is around (for_each domain var effects) =
        four (range_is around domain) refl (least 1 (effects_count effects))
        (ap (λ sort. AreEffects other (behind other around var sort) (effects_unplaced effects)) (same_sort domain)
        ∙ effects_are (behind sheet around var (sort_of domain)) effects)
    effect_is around (next_is who) = refl
    effect_is around turn_round = refl
    effect_is around (peek cards who) = both (coll_is around cards) refl

    effects_are : (around : Around) (effects : Effects)
        → AreEffects other around (effects_unplaced effects) ≡ AreEffects sheet around effects
    effects_are around no_effect = refl
    effects_are around (effect e effects) = both (effect_is around e) (effects_are around effects)

  alt_is : (around : Around) (alt : Alt) → IsAlt other around (alt_unplaced alt) ≡ IsAlt sheet around alt
  alt_is around (do_alt effects) = both (least 1 (effects_count effects)) (effects_are around effects)
  alt_is around (if_alt guard effects) =
      three (test_is around guard) (least 1 (effects_count effects)) (effects_are around effects)
  alt_is around (any_alt domain var alt) =
      three (domain_is around domain) refl
      (ap (λ sort. IsAlt other (behind other around var sort) (alt_unplaced alt)) (same_sort domain)
      ∙ alt_is (behind sheet around var (sort_of domain)) alt)

  alts_are : (around : Around) (alts : List Alt) → AreAlts other around (map alt_unplaced alts) ≡ AreAlts sheet around alts
  alts_are around [] = refl
  alts_are around (alt ∷ alts) = both (alt_is around alt) (alts_are around alts)

  mutual
    item_is : (around : Around) (i : SheetItem) → IsItem other around (item_unplaced i) ≡ IsItem sheet around i
    item_is around (do_item effects) = both (least 1 (effects_count effects)) (effects_are around effects)
    item_is around (stage place game_class end body) = refl
    item_is around (stage place player_class end body) =
        three (test_is (in_stage player_class around) end) (least 1 (items_count body))
        (items_are (in_stage player_class around) body)
    item_is around (stage place team_class end body) =
        three (test_is (in_stage team_class around) end) (least 1 (items_count body))
        (items_are (in_stage team_class around) body)
    item_is around (choice site alts) = three refl (least 1 (alts_count alts)) (alts_are around alts)

    pub items_are : (around : Around) (items : SheetItems)
        → AreItems other around (items_unplaced items) ≡ AreItems sheet around items
    items_are around no_item = refl
    items_are around (item i items) = both (item_is around i) (items_are around items)
