-- Which locations a choice may read does not depend on offsets.
use Rattle.std.proofs.Common.{◌≡◌, Bool, true, false, not, cond, List, [], ◌∷◌, ◌++◌, map, flat_map, filter, refl, sym, ap, ap₂, ◌∙◌}
use Rattle.std.proofs.lemmas.List.{map-append}
use Rattle.rc_sheet_spec.specs.Sheet.{LocName, Loc, CardExpr, card_var, top_card, bottom_card, max_card, min_card, CollExpr, group_var, cards_in, filtered, union_of, known_in, CollExprs, no_coll, coll, IntExpr, literal, number, size_of, sum_of, worth_of, add, subtract, multiply, Test, eq_int, eq_card, eq_attr, eq_who, ne, less, less_eq, more, more_eq, has_value, and_of, or_of, not_of, all_of, any_of, Tests, no_test, test, Domain, each_player, each_card, each_group, Alt, do_alt, if_alt, any_alt, SheetItem, do_item, stage, choice, SheetItems, no_item, item, Sheet}
use Rattle.rc_sheet_spec.specs.Sight.{locs_in_card, locs_in_coll, locs_in_colls, locs_in_int, locs_in_test, locs_in_tests, locs_in_domain, locs_in_alt, locs_in_item, locs_in_items, is_in_sight, IsInSight}
use Rattle.rc_print.specs.Unplaced.{loc_unplaced, card_unplaced, coll_unplaced, colls_unplaced, int_unplaced, test_unplaced, tests_unplaced, domain_unplaced, alt_unplaced, item_unplaced, items_unplaced}
use Rattle.rc_sheet.proofs.Moved.Sheet.{with_body}

-- the locations of two parts
both : {xs' ys' : List Loc} (xs ys : List Loc) → xs' ≡ map loc_unplaced xs → ys' ≡ map loc_unplaced ys
    → xs' ++ ys' ≡ map loc_unplaced (xs ++ ys)
both xs ys first second = ap₂ ◌++◌ first second ∙ sym (map-append loc_unplaced xs ys)

mutual
  card_locs : (card : CardExpr) → locs_in_card (card_unplaced card) ≡ map loc_unplaced (locs_in_card card)
  card_locs (card_var var) = refl
  card_locs (top_card cards) = coll_locs cards
  card_locs (bottom_card cards) = coll_locs cards
  card_locs (max_card cards map) = coll_locs cards
  card_locs (min_card cards map) = coll_locs cards

  coll_locs : (cards : CollExpr) → locs_in_coll (coll_unplaced cards) ≡ map loc_unplaced (locs_in_coll cards)
  coll_locs (group_var var) = refl
  coll_locs (cards_in loc) = refl
  coll_locs (filtered cards var t) = both (locs_in_coll cards) (locs_in_test t) (coll_locs cards) (test_locs t)
  coll_locs (union_of parts) = colls_locs parts
  coll_locs (known_in loc) = refl

  colls_locs : (parts : CollExprs) → locs_in_colls (colls_unplaced parts) ≡ map loc_unplaced (locs_in_colls parts)
  colls_locs no_coll = refl
  colls_locs (coll cards parts) = both (locs_in_coll cards) (locs_in_colls parts) (coll_locs cards) (colls_locs parts)

  int_locs : (int : IntExpr) → locs_in_int (int_unplaced int) ≡ map loc_unplaced (locs_in_int int)
  int_locs (literal value) = refl
  int_locs (number num) = refl
  int_locs (size_of (group_var var)) = refl
  int_locs (size_of (cards_in loc)) = refl
  int_locs (size_of (filtered cards var t)) = both (locs_in_coll cards) (locs_in_test t) (coll_locs cards) (test_locs t)
  int_locs (size_of (union_of parts)) = colls_locs parts
  int_locs (size_of (known_in loc)) = refl
  int_locs (sum_of cards map) = coll_locs cards
  int_locs (worth_of card map) = card_locs card
  int_locs (add a b) = both (locs_in_int a) (locs_in_int b) (int_locs a) (int_locs b)
  int_locs (subtract a b) = both (locs_in_int a) (locs_in_int b) (int_locs a) (int_locs b)
  int_locs (multiply a b) = both (locs_in_int a) (locs_in_int b) (int_locs a) (int_locs b)

  test_locs : (t : Test) → locs_in_test (test_unplaced t) ≡ map loc_unplaced (locs_in_test t)
  test_locs (eq_int a b) = both (locs_in_int a) (locs_in_int b) (int_locs a) (int_locs b)
  test_locs (eq_card a b) = both (locs_in_card a) (locs_in_card b) (card_locs a) (card_locs b)
  test_locs (eq_attr a attr b attr') = both (locs_in_card a) (locs_in_card b) (card_locs a) (card_locs b)
  test_locs (eq_who who who') = refl
  test_locs (ne t) = test_locs t
  test_locs (less a b) = both (locs_in_int a) (locs_in_int b) (int_locs a) (int_locs b)
  test_locs (less_eq a b) = both (locs_in_int a) (locs_in_int b) (int_locs a) (int_locs b)
  test_locs (more a b) = both (locs_in_int a) (locs_in_int b) (int_locs a) (int_locs b)
  test_locs (more_eq a b) = both (locs_in_int a) (locs_in_int b) (int_locs a) (int_locs b)
  test_locs (has_value card attr value) = card_locs card
  test_locs (and_of tests) = tests_locs tests
  test_locs (or_of tests) = tests_locs tests
  test_locs (not_of t) = test_locs t
  test_locs (all_of domain var t) = both (locs_in_domain domain) (locs_in_test t) (domain_locs domain) (test_locs t)
  test_locs (any_of domain var t) = both (locs_in_domain domain) (locs_in_test t) (domain_locs domain) (test_locs t)

  tests_locs : (tests : Tests) → locs_in_tests (tests_unplaced tests) ≡ map loc_unplaced (locs_in_tests tests)
  tests_locs no_test = refl
  tests_locs (test t tests) = both (locs_in_test t) (locs_in_tests tests) (test_locs t) (tests_locs tests)

  domain_locs : (domain : Domain) → locs_in_domain (domain_unplaced domain) ≡ map loc_unplaced (locs_in_domain domain)
  domain_locs each_player = refl
  domain_locs (each_card cards) = coll_locs cards
  domain_locs (each_group cards attr) = coll_locs cards

alt_locs : (alt : Alt) → locs_in_alt (alt_unplaced alt) ≡ map loc_unplaced (locs_in_alt alt)
alt_locs (do_alt effects) = refl
alt_locs (if_alt guard effects) = test_locs guard
alt_locs (any_alt domain var alt) = both (locs_in_domain domain) (locs_in_alt alt) (domain_locs domain) (alt_locs alt)

alts_locs : (alts : List Alt) → flat_map locs_in_alt (map alt_unplaced alts) ≡ map loc_unplaced (flat_map locs_in_alt alts)
alts_locs [] = refl
alts_locs (alt ∷ alts) = both (locs_in_alt alt) (flat_map locs_in_alt alts) (alt_locs alt) (alts_locs alts)

mutual
  item_locs : (i : SheetItem) → locs_in_item (item_unplaced i) ≡ map loc_unplaced (locs_in_item i)
  item_locs (do_item effects) = refl
  item_locs (stage place class end body) = items_locs body
  item_locs (choice site alts) = alts_locs alts

  items_locs : (items : SheetItems) → locs_in_items (items_unplaced items) ≡ map loc_unplaced (locs_in_items items)
  items_locs no_item = refl
  items_locs (item i items) = both (locs_in_item i) (locs_in_items items) (item_locs i) (items_locs items)

-- those out of sight
abbrev out_of_sight : List LocName → List Loc → List Loc
out_of_sight names locs = filter (λ loc. not (is_in_sight names loc)) locs

still_out : (names : List LocName) (locs : List Loc)
    → out_of_sight names (map loc_unplaced locs) ≡ map loc_unplaced (out_of_sight names locs)
still_out names [] = refl
still_out names (loc ∷ locs) =
    by (not (is_in_sight names loc)) (out_of_sight names (map loc_unplaced locs)) (out_of_sight names locs) (still_out names locs)
  where
    by : (out : Bool) (rest locs : List Loc) → rest ≡ map loc_unplaced locs
        → cond out (loc_unplaced loc ∷ rest) rest ≡ map loc_unplaced (cond out (loc ∷ locs) locs)
    by true rest locs is = ap (λ l. loc_unplaced loc ∷ l) is
    by false rest locs is = is

none_left : (locs : List Loc) → map loc_unplaced locs ≡ [] → locs ≡ []
none_left [] none = refl
none_left (loc ∷ locs) none = absurd cc

-- a sheet that is the same but for offsets keeps the rule
pub still_in_sight : (sheet : Sheet) (items : SheetItems) (score : IntExpr)
    → items_unplaced items ≡ items_unplaced sheet.items → IsInSight sheet → IsInSight (with_body sheet items score)
still_in_sight sheet items score same seen =
    let locs : map loc_unplaced (locs_in_items items) ≡ map loc_unplaced (locs_in_items sheet.items) =
    sym (items_locs items) ∙ ap locs_in_items same ∙ items_locs sheet.items in
    none_left (out_of_sight sheet.locs (locs_in_items items))
    (sym (still_out sheet.locs (locs_in_items items)) ∙ ap (out_of_sight sheet.locs) locs
    ∙ still_out sheet.locs (locs_in_items sheet.items) ∙ ap (map loc_unplaced) seen)
