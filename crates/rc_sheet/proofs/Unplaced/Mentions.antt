-- What a part of a sheet mentions, its numbers and how many parts it has do not depend on its offsets.
use Rattle.std.proofs.Common.{◌≡◌, suc, List, [], ◌∷◌, ◌++◌, length, map, flat_map, refl, ap, ap₂}
use Rattle.rc_sheet_spec.specs.Sheet.{CardExpr, card_var, top_card, bottom_card, max_card, min_card, CollExpr, group_var, cards_in, filtered, union_of, known_in, CollExprs, no_coll, coll, IntExpr, literal, number, size_of, sum_of, worth_of, add, subtract, multiply, Test, eq_int, eq_card, eq_attr, eq_who, ne, less, less_eq, more, more_eq, has_value, and_of, or_of, not_of, all_of, any_of, Tests, no_test, test, Domain, each_player, each_card, each_group, Effect, move, move_all, remember, forget, shuffle, set_to, increase, decrease, when, repeat, for_each, next_is, turn_round, peek, Effects, no_effect, effect, Alt, do_alt, if_alt, any_alt, SheetItem, do_item, stage, choice, SheetItems, no_item, item}
use Rattle.rc_sheet_spec.specs.Lists.{coll_list, test_list, effect_list, item_list}
use Rattle.rc_sheet_spec.specs.Mentions.{attr_name, var_name, in_num, in_card, in_coll, in_colls, in_int, in_test, in_tests, in_domain, in_effect, in_effects, in_alt, in_item, in_items, stages_in_item, stages_in, sites_in_item, sites_in}
use Rattle.rc_print.specs.Unplaced.{card_unplaced, coll_unplaced, colls_unplaced, int_unplaced, test_unplaced, tests_unplaced, domain_unplaced, effect_unplaced, effects_unplaced, alt_unplaced, item_unplaced, items_unplaced}

-- the mentions of two parts
both : {A : Type 0} {xs xs' ys ys' : List A} → xs ≡ xs' → ys ≡ ys' → xs ++ ys ≡ xs' ++ ys'
both first second = ap₂ ◌++◌ first second

mutual
  card_mentions : (card : CardExpr) → in_card (card_unplaced card) ≡ in_card card
  card_mentions (card_var var) = refl
  card_mentions (top_card cards) = coll_mentions cards
  card_mentions (bottom_card cards) = coll_mentions cards
  card_mentions (max_card cards map) = both (coll_mentions cards) refl
  card_mentions (min_card cards map) = both (coll_mentions cards) refl

  coll_mentions : (cards : CollExpr) → in_coll (coll_unplaced cards) ≡ in_coll cards
  coll_mentions (group_var var) = refl
  coll_mentions (cards_in loc) = refl
  coll_mentions (filtered cards var t) = both (coll_mentions cards) (ap (λ l. var_name var ∷ l) (test_mentions t))
  coll_mentions (union_of parts) = colls_mentions parts
  coll_mentions (known_in loc) = refl

  colls_mentions : (parts : CollExprs) → in_colls (colls_unplaced parts) ≡ in_colls parts
  colls_mentions no_coll = refl
  colls_mentions (coll cards parts) = both (coll_mentions cards) (colls_mentions parts)

  pub int_mentions : (int : IntExpr) → in_int (int_unplaced int) ≡ in_int int
  int_mentions (literal value) = refl
  int_mentions (number num) = refl
  int_mentions (size_of cards) = coll_mentions cards
  int_mentions (sum_of cards map) = both (coll_mentions cards) refl
  int_mentions (worth_of card map) = both (card_mentions card) refl
  int_mentions (add a b) = both (int_mentions a) (int_mentions b)
  int_mentions (subtract a b) = both (int_mentions a) (int_mentions b)
  int_mentions (multiply a b) = both (int_mentions a) (int_mentions b)

  test_mentions : (t : Test) → in_test (test_unplaced t) ≡ in_test t
  test_mentions (eq_int a b) = both (int_mentions a) (int_mentions b)
  test_mentions (eq_card a b) = both (card_mentions a) (card_mentions b)
  test_mentions (eq_attr a attr b attr') =
      both (both (card_mentions a) (ap (λ l. attr_name attr ∷ l) (card_mentions b))) refl
  test_mentions (eq_who who who') = refl
  test_mentions (ne t) = test_mentions t
  test_mentions (less a b) = both (int_mentions a) (int_mentions b)
  test_mentions (less_eq a b) = both (int_mentions a) (int_mentions b)
  test_mentions (more a b) = both (int_mentions a) (int_mentions b)
  test_mentions (more_eq a b) = both (int_mentions a) (int_mentions b)
  test_mentions (has_value card attr value) = both (card_mentions card) refl
  test_mentions (and_of tests) = tests_mentions tests
  test_mentions (or_of tests) = tests_mentions tests
  test_mentions (not_of t) = test_mentions t
  test_mentions (all_of domain var t) = both (domain_mentions domain) (ap (λ l. var_name var ∷ l) (test_mentions t))
  test_mentions (any_of domain var t) = both (domain_mentions domain) (ap (λ l. var_name var ∷ l) (test_mentions t))

  tests_mentions : (tests : Tests) → in_tests (tests_unplaced tests) ≡ in_tests tests
  tests_mentions no_test = refl
  tests_mentions (test t tests) = both (test_mentions t) (tests_mentions tests)

  domain_mentions : (domain : Domain) → in_domain (domain_unplaced domain) ≡ in_domain domain
  domain_mentions each_player = refl
  domain_mentions (each_card cards) = coll_mentions cards
  domain_mentions (each_group cards attr) = both (coll_mentions cards) refl

mutual
  effect_mentions : (e : Effect) → in_effect (effect_unplaced e) ≡ in_effect e
  effect_mentions (move card end loc) = both (card_mentions card) refl
  effect_mentions (move_all cards end loc) = both (coll_mentions cards) refl
  effect_mentions (remember card end loc) = both (card_mentions card) refl
  effect_mentions (forget card) = card_mentions card
  effect_mentions (shuffle loc) = refl
  effect_mentions (set_to num value) = ap (λ l. in_num num ++ l) (int_mentions value)
  effect_mentions (increase num value) = ap (λ l. in_num num ++ l) (int_mentions value)
  effect_mentions (decrease num value) = ap (λ l. in_num num ++ l) (int_mentions value)
  effect_mentions (when t effects) = both (test_mentions t) (effects_mentions effects)
  effect_mentions (repeat times effects) = both (int_mentions times) (effects_mentions effects)
  effect_mentions (for_each domain var effects) =
      both (domain_mentions domain) (ap (λ l. var_name var ∷ l) (effects_mentions effects))
  effect_mentions (next_is who) = refl
  effect_mentions turn_round = refl
  effect_mentions (peek cards who) = coll_mentions cards

  effects_mentions : (effects : Effects) → in_effects (effects_unplaced effects) ≡ in_effects effects
  effects_mentions no_effect = refl
  effects_mentions (effect e effects) = both (effect_mentions e) (effects_mentions effects)

alt_mentions : (alt : Alt) → in_alt (alt_unplaced alt) ≡ in_alt alt
alt_mentions (do_alt effects) = effects_mentions effects
alt_mentions (if_alt guard effects) = both (test_mentions guard) (effects_mentions effects)
alt_mentions (any_alt domain var alt) = both (domain_mentions domain) (ap (λ l. var_name var ∷ l) (alt_mentions alt))

alts_mentions : (alts : List Alt) → flat_map in_alt (map alt_unplaced alts) ≡ flat_map in_alt alts
alts_mentions [] = refl
alts_mentions (alt ∷ alts) = both (alt_mentions alt) (alts_mentions alts)

mutual
  item_mentions : (i : SheetItem) → in_item (item_unplaced i) ≡ in_item i
  item_mentions (do_item effects) = effects_mentions effects
  item_mentions (stage place class end body) = both (test_mentions end) (items_mentions body)
  item_mentions (choice site alts) = alts_mentions alts

  pub items_mentions : (items : SheetItems) → in_items (items_unplaced items) ≡ in_items items
  items_mentions no_item = refl
  items_mentions (item i items) = both (item_mentions i) (items_mentions items)

-- STAGES AND CHOICES

mutual
  item_stages : (i : SheetItem) → stages_in_item (item_unplaced i) ≡ stages_in_item i
  item_stages (do_item effects) = refl
  item_stages (stage place class end body) = ap (λ l. place ∷ l) (items_stages body)
  item_stages (choice site alts) = refl

  pub items_stages : (items : SheetItems) → stages_in (items_unplaced items) ≡ stages_in items
  items_stages no_item = refl
  items_stages (item i items) = both (item_stages i) (items_stages items)

mutual
  item_sites : (i : SheetItem) → sites_in_item (item_unplaced i) ≡ sites_in_item i
  item_sites (do_item effects) = refl
  item_sites (stage place class end body) = items_sites body
  item_sites (choice site alts) = refl

  pub items_sites : (items : SheetItems) → sites_in (items_unplaced items) ≡ sites_in items
  items_sites no_item = refl
  items_sites (item i items) = both (item_sites i) (items_sites items)

-- HOW MANY

pub colls_count : (parts : CollExprs) → length (coll_list (colls_unplaced parts)) ≡ length (coll_list parts)
colls_count no_coll = refl
colls_count (coll cards parts) = ap suc (colls_count parts)

pub tests_count : (tests : Tests) → length (test_list (tests_unplaced tests)) ≡ length (test_list tests)
tests_count no_test = refl
tests_count (test t tests) = ap suc (tests_count tests)

pub effects_count : (effects : Effects) → length (effect_list (effects_unplaced effects)) ≡ length (effect_list effects)
effects_count no_effect = refl
effects_count (effect e effects) = ap suc (effects_count effects)

pub alts_count : (alts : List Alt) → length (map alt_unplaced alts) ≡ length alts
alts_count [] = refl
alts_count (alt ∷ alts) = ap suc (alts_count alts)

pub items_count : (items : SheetItems) → length (item_list (items_unplaced items)) ≡ length (item_list items)
items_count no_item = refl
items_count (item i items) = ap suc (items_count items)
