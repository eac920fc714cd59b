-- The form that is printed for a part of a sheet does not depend on its offsets.
use Rattle.std.proofs.Common.{◌≡◌, List, [], ◌∷◌, ◌++◌, map, codes, refl, ap, ap₂}
use Rattle.rc_sheet_spec.specs.Sheet.{Loc, CardExpr, card_var, top_card, bottom_card, max_card, min_card, CollExpr, group_var, cards_in, filtered, union_of, known_in, CollExprs, no_coll, coll, IntExpr, literal, number, size_of, sum_of, worth_of, add, subtract, multiply, Test, eq_int, eq_card, eq_attr, eq_who, ne, less, less_eq, more, more_eq, has_value, and_of, or_of, not_of, all_of, any_of, Tests, no_test, test, Domain, each_player, each_card, each_group, End, top, bottom, Effect, move, move_all, remember, forget, shuffle, set_to, increase, decrease, when, repeat, for_each, next_is, turn_round, peek, Effects, no_effect, effect, Alt, do_alt, if_alt, any_alt, SheetItem, do_item, stage, choice, SheetItems, no_item, item, Sheet}
use Rattle.rc_sheet_spec.specs.Naming.{Naming, sheet_naming}
use Rattle.rc_sheet_spec.specs.Printing.{Bound, keyword, named, row, one, two, with_map, attr_form, who_form, num_form, spot_form, class_form, binding, card_form, coll_form, coll_forms, int_form, test_form, sides, test_forms, domain_form, effect_form, effect_forms, alt_form, item_form, item_forms, setup_forms, best_form, sheet_form}
use Rattle.rc_print.specs.Unplaced.{loc_unplaced, card_unplaced, coll_unplaced, colls_unplaced, int_unplaced, test_unplaced, tests_unplaced, domain_unplaced, effect_unplaced, effects_unplaced, alt_unplaced, item_unplaced, items_unplaced, unplaced}

module _ (naming : Naming) where
  mutual
    card_alike : (bound : Bound) (card : CardExpr) → card_form naming bound (card_unplaced card) ≡ card_form naming bound card
    card_alike bound (card_var var) = refl
    card_alike bound (top_card cards) = ap (one "top") (coll_alike bound cards)
    card_alike bound (bottom_card cards) = ap (one "bottom") (coll_alike bound cards)
    card_alike bound (max_card cards map) = ap (λ t. with_map naming "max" t map) (coll_alike bound cards)
    card_alike bound (min_card cards map) = ap (λ t. with_map naming "min" t map) (coll_alike bound cards)

    coll_alike : (bound : Bound) (cards : CollExpr) → coll_form naming bound (coll_unplaced cards) ≡ coll_form naming bound cards
    coll_alike bound (group_var var) = refl
    coll_alike bound (cards_in loc) = refl
    coll_alike bound (filtered cards var t) =
        ap₂ (λ c u. row (keyword "filter" ∷ c ∷ named naming.names.vars var ∷ u ∷ [])) (coll_alike bound cards)
        (test_alike (binding naming bound var) t)
    coll_alike bound (union_of parts) = ap (λ l. row (keyword "union" ∷ l)) (colls_alike bound parts)
    coll_alike bound (known_in loc) = refl

    colls_alike : (bound : Bound) (parts : CollExprs)
        → coll_forms naming bound (colls_unplaced parts) ≡ coll_forms naming bound parts
    colls_alike bound no_coll = refl
    colls_alike bound (coll cards parts) = ap₂ ◌∷◌ (coll_alike bound cards) (colls_alike bound parts)

    pub int_alike : (bound : Bound) (int : IntExpr) → int_form naming bound (int_unplaced int) ≡ int_form naming bound int
    int_alike bound (literal value) = refl
    int_alike bound (number num) = refl
    int_alike bound (size_of cards) = ap (one "size") (coll_alike bound cards)
    int_alike bound (sum_of cards map) = ap (λ t. with_map naming "sum" t map) (coll_alike bound cards)
    int_alike bound (worth_of card map) = ap (λ t. with_map naming "points" t map) (card_alike bound card)
    int_alike bound (add a b) = ap₂ (two "+") (int_alike bound a) (int_alike bound b)
    int_alike bound (subtract a b) = ap₂ (two "-") (int_alike bound a) (int_alike bound b)
    int_alike bound (multiply a b) = ap₂ (two "*") (int_alike bound a) (int_alike bound b)

    test_alike : (bound : Bound) (t : Test) → test_form naming bound (test_unplaced t) ≡ test_form naming bound t
    test_alike bound (eq_int a b) = ap₂ (two "=") (int_alike bound a) (int_alike bound b)
    test_alike bound (eq_card a b) = ap₂ (two "=") (card_alike bound a) (card_alike bound b)
    test_alike bound (eq_attr a attr b attr') =
        ap₂ (λ x y. two "=" (attr_form naming x attr) (attr_form naming y attr')) (card_alike bound a) (card_alike bound b)
    test_alike bound (eq_who who who') = refl
    test_alike bound (ne t) = ap (λ l. row (keyword "!=" ∷ l)) (sides_alike bound t)
    test_alike bound (less a b) = ap₂ (two "<") (int_alike bound a) (int_alike bound b)
    test_alike bound (less_eq a b) = ap₂ (two "<=") (int_alike bound a) (int_alike bound b)
    test_alike bound (more a b) = ap₂ (two ">") (int_alike bound a) (int_alike bound b)
    test_alike bound (more_eq a b) = ap₂ (two ">=") (int_alike bound a) (int_alike bound b)
    test_alike bound (has_value card attr value) =
        ap (λ c. row (keyword "is" ∷ c ∷ named naming.names.attrs attr ∷ named naming.names.values value ∷ []))
        (card_alike bound card)
    test_alike bound (and_of tests) = ap (λ l. row (keyword "and" ∷ l)) (tests_alike bound tests)
    test_alike bound (or_of tests) = ap (λ l. row (keyword "or" ∷ l)) (tests_alike bound tests)
    test_alike bound (not_of t) = ap (one "not") (test_alike bound t)
    test_alike bound (all_of domain var t) =
        ap₂ (λ d u. row (keyword "all" ∷ d ∷ named naming.names.vars var ∷ u ∷ [])) (domain_alike bound domain)
        (test_alike (binding naming bound var) t)
    test_alike bound (any_of domain var t) =
        ap₂ (λ d u. row (keyword "any" ∷ d ∷ named naming.names.vars var ∷ u ∷ [])) (domain_alike bound domain)
        (test_alike (binding naming bound var) t)

    sides_alike : (bound : Bound) (t : Test) → sides naming bound (test_unplaced t) ≡ sides naming bound t
    sides_alike bound (eq_int a b) = ap₂ (λ x y. x ∷ y ∷ []) (int_alike bound a) (int_alike bound b)
    sides_alike bound (eq_card a b) = ap₂ (λ x y. x ∷ y ∷ []) (card_alike bound a) (card_alike bound b)
    sides_alike bound (eq_attr a attr b attr') =
        ap₂ (λ x y. attr_form naming x attr ∷ attr_form naming y attr' ∷ []) (card_alike bound a) (card_alike bound b)
    sides_alike bound (has_value card attr value) = refl
    sides_alike bound t = refl

    tests_alike : (bound : Bound) (tests : Tests)
        → test_forms naming bound (tests_unplaced tests) ≡ test_forms naming bound tests
    tests_alike bound no_test = refl
    tests_alike bound (test t tests) = ap₂ ◌∷◌ (test_alike bound t) (tests_alike bound tests)

    domain_alike : (bound : Bound) (domain : Domain)
        → domain_form naming bound (domain_unplaced domain) ≡ domain_form naming bound domain
    domain_alike bound each_player = refl
    domain_alike bound (each_card cards) = coll_alike bound cards
    domain_alike bound (each_group cards attr) =
        ap (λ c. two "partition" c (named naming.names.attrs attr)) (coll_alike bound cards)

  spot_alike : (bound : Bound) (end : End) (loc : Loc)
      → spot_form naming bound end (loc_unplaced loc) ≡ spot_form naming bound end loc
  spot_alike bound top loc = refl
  spot_alike bound bottom loc = refl

  mutual
    effect_alike : (bound : Bound) (e : Effect) → effect_form naming bound (effect_unplaced e) ≡ effect_form naming bound e
    effect_alike bound (move card end loc) = ap₂ (two "move") (card_alike bound card) (spot_alike bound end loc)
    effect_alike bound (move_all cards end loc) =
        ap₂ (λ c s. row (keyword "move" ∷ keyword "all" ∷ c ∷ s ∷ [])) (coll_alike bound cards) (spot_alike bound end loc)
    effect_alike bound (remember card end loc) = ap₂ (two "remember") (card_alike bound card) (spot_alike bound end loc)
    effect_alike bound (forget card) = ap (one "forget") (card_alike bound card)
    effect_alike bound (shuffle loc) = refl
    effect_alike bound (set_to num value) = ap (two "set" (num_form naming bound num)) (int_alike bound value)
    effect_alike bound (increase num value) = ap (two "inc" (num_form naming bound num)) (int_alike bound value)
    effect_alike bound (decrease num value) = ap (two "dec" (num_form naming bound num)) (int_alike bound value)
    effect_alike bound (when t effects) =
        ap₂ (λ u l. row (keyword "if" ∷ u ∷ l)) (test_alike bound t) (effects_alike bound effects)
    effect_alike bound (repeat times effects) =
        ap₂ (λ n l. row (keyword "repeat" ∷ n ∷ l)) (int_alike bound times) (effects_alike bound effects)
    effect_alike bound (for_each domain var effects) =
        ap₂ (λ d l. row (keyword "all" ∷ d ∷ named naming.names.vars var ∷ l)) (domain_alike bound domain)
        (effects_alike (binding naming bound var) effects)
    effect_alike bound (next_is who) = refl
    effect_alike bound turn_round = refl
    effect_alike bound (peek cards who) = ap (λ c. two "peek" c (who_form bound who)) (coll_alike bound cards)

    effects_alike : (bound : Bound) (effects : Effects)
        → effect_forms naming bound (effects_unplaced effects) ≡ effect_forms naming bound effects
    effects_alike bound no_effect = refl
    effects_alike bound (effect e effects) = ap₂ ◌∷◌ (effect_alike bound e) (effects_alike bound effects)

  alt_alike : (bound : Bound) (alt : Alt) → alt_form naming bound (alt_unplaced alt) ≡ alt_form naming bound alt
  alt_alike bound (do_alt effects) = ap (λ l. row (keyword "do" ∷ l)) (effects_alike bound effects)
  alt_alike bound (if_alt guard effects) =
      ap₂ (λ u l. row (keyword "if" ∷ u ∷ l)) (test_alike bound guard) (effects_alike bound effects)
  alt_alike bound (any_alt domain var alt) =
      ap₂ (λ d a. row (keyword "any" ∷ d ∷ named naming.names.vars var ∷ a ∷ [])) (domain_alike bound domain)
      (alt_alike (binding naming bound var) alt)

  alts_alike : (alts : List Alt) → map (alt_form naming []) (map alt_unplaced alts) ≡ map (alt_form naming []) alts
  alts_alike [] = refl
  alts_alike (alt ∷ alts) = ap₂ ◌∷◌ (alt_alike [] alt) (alts_alike alts)

  mutual
    item_alike : (i : SheetItem) → item_form naming (item_unplaced i) ≡ item_form naming i
    item_alike (do_item effects) = ap (λ l. row (keyword "do" ∷ l)) (effects_alike [] effects)
    item_alike (stage place class end body) =
        ap₂ (λ t l. row (keyword "stage" ∷ class_form class ∷ one "end" t ∷ l)) (test_alike [] end) (items_alike body)
    item_alike (choice site alts) = ap (λ l. row (keyword "choice" ∷ l)) (alts_alike alts)

    pub items_alike : (items : SheetItems) → item_forms naming (items_unplaced items) ≡ item_forms naming items
    items_alike no_item = refl
    items_alike (item i items) = ap₂ ◌∷◌ (item_alike i) (items_alike items)

-- nor does that of a sheet
pub form_alike : (sheet : Sheet) → sheet_form (unplaced sheet) ≡ sheet_form sheet
form_alike sheet =
    ap₂ (λ body score. row (keyword "game" ∷ row (keyword "setup" ∷ setup_forms sheet)
    ∷ body ++ two "scoring" (best_form sheet.best) score ∷ []))
    (items_alike (sheet_naming sheet) sheet.items) (int_alike (sheet_naming sheet) (codes "'SELF" ∷ []) sheet.score)
