-- In a well formed sheet at most four variables are bound around any place.
use Rattle.std.proofs.Common.{◌≡◌, ℕ, ◌+◌, ◌≤◌, ◌==◌, Bool, true, false, if◌then◌else◌, List, [], ◌∷◌, ◌++◌, slice_index_or, refl, arith}
use Rattle.std.specs.List.{AllByRecursion}
use Rattle.std.specs.Prelude.{All}
use Rattle.std.proofs.lemmas.List.Elements.{All-from_recursion}
use Rattle.rc_sheet_spec.specs.Sheet.{player_class, team_class, game_class, CardExpr, card_var, top_card, bottom_card, max_card, min_card, CollExpr, group_var, cards_in, filtered, union_of, known_in, CollExprs, no_coll, coll, IntExpr, literal, number, size_of, sum_of, worth_of, add, subtract, multiply, Test, eq_int, eq_card, eq_attr, eq_who, ne, less, less_eq, more, more_eq, has_value, and_of, or_of, not_of, all_of, any_of, Tests, no_test, test, Domain, each_player, each_card, each_group, Alt, do_alt, if_alt, any_alt, SheetItem, do_item, stage, choice, SheetItems, no_item, item, Sheet}
use Rattle.rc_sheet_spec.specs.Naming.{sort_of}
use Rattle.rc_sheet_spec.specs.Sheet.{card_sort}
use Rattle.rc_sheet_spec.specs.WellFormed.{Around, outside, in_stage, behind, IsCard, IsColl, AreColls, IsInt, IsTest, AreTests, IsRange, IsDomain, IsAlt, AreAlts, IsItem, AreItems, IsWellFormed}
use Rattle.rc_play_spec.specs.Menu.{alts_in_item, alts_in, alts_at}
use Rattle.rc_value.specs.Depth.{card_depth, coll_depth, colls_depth, int_depth, test_depth, tests_depth, domain_depth}
use Rattle.rc_value.specs.Binding.{range_depth, BindsFew}

module _ (sheet : Sheet) where
  mutual
    pub card_few : (around : Around) (e : CardExpr) → around.binders ≤ 4 → IsCard sheet around e → around.binders + card_depth e ≤ 4
    card_few around (card_var var) le is = omega (arith, le)
    card_few around (top_card cards) le is = coll_few around cards le is
    card_few around (bottom_card cards) le is = coll_few around cards le is
    card_few around (max_card cards map) le is = coll_few around cards le is.0
    card_few around (min_card cards map) le is = coll_few around cards le is.0

    pub coll_few : (around : Around) (e : CollExpr) → around.binders ≤ 4 → IsColl sheet around e → around.binders + coll_depth e ≤ 4
    coll_few around (group_var var) le is = omega (arith, le)
    coll_few around (cards_in loc) le is = omega (arith, le)
    coll_few around (filtered cards bound t) le is =
        let h = coll_few around cards le is.0 in
        let k = test_few (behind sheet around bound card_sort) t (omega (arith, is.1.2)) is.2 in
        omega (arith, h, k)
    coll_few around (union_of parts) le is = colls_few around parts le is.1
    coll_few around (known_in loc) le is = omega (arith, le)

    colls_few : (around : Around) (es : CollExprs) → around.binders ≤ 4 → AreColls sheet around es → around.binders + colls_depth es ≤ 4
    colls_few around no_coll le are = omega (arith, le)
    colls_few around (coll cards parts) le are =
        let h = coll_few around cards le are.0 in let k = colls_few around parts le are.1 in omega (arith, h, k)

    pub int_few : (around : Around) (e : IntExpr) → around.binders ≤ 4 → IsInt sheet around e → around.binders + int_depth e ≤ 4
    int_few around (literal value) le is = omega (arith, le)
    int_few around (number num) le is = omega (arith, le)
    int_few around (size_of cards) le is = coll_few around cards le is
    int_few around (sum_of cards map) le is = coll_few around cards le is.0
    int_few around (worth_of card map) le is = card_few around card le is.0
    int_few around (add a b) le is = let h = int_few around a le is.0 in let k = int_few around b le is.1 in omega (arith, h, k)
    int_few around (subtract a b) le is = let h = int_few around a le is.0 in let k = int_few around b le is.1 in omega (arith, h, k)
    int_few around (multiply a b) le is = let h = int_few around a le is.0 in let k = int_few around b le is.1 in omega (arith, h, k)

    pub test_few : (around : Around) (t : Test) → around.binders ≤ 4 → IsTest sheet around t → around.binders + test_depth t ≤ 4
    test_few around (eq_int a b) le is = let h = int_few around a le is.0 in let k = int_few around b le is.1 in omega (arith, h, k)
    test_few around (eq_card a b) le is = let h = card_few around a le is.0 in let k = card_few around b le is.1 in omega (arith, h, k)
    test_few around (eq_attr a attr b attr') le is = let h = card_few around a le is.0 in let k = card_few around b le is.2 in omega (arith, h, k)
    test_few around (eq_who who who') le is = omega (arith, le)
    test_few around (ne t) le is = test_few around t le is.1
    test_few around (less a b) le is = let h = int_few around a le is.0 in let k = int_few around b le is.1 in omega (arith, h, k)
    test_few around (less_eq a b) le is = let h = int_few around a le is.0 in let k = int_few around b le is.1 in omega (arith, h, k)
    test_few around (more a b) le is = let h = int_few around a le is.0 in let k = int_few around b le is.1 in omega (arith, h, k)
    test_few around (more_eq a b) le is = let h = int_few around a le is.0 in let k = int_few around b le is.1 in omega (arith, h, k)
    test_few around (has_value card attr value) le is = card_few around card le is.0
    test_few around (and_of tests) le is = tests_few around tests le is.1
    test_few around (or_of tests) le is = tests_few around tests le is.1
    test_few around (not_of t) le is = test_few around t le is
    test_few around (all_of domain bound t) le is =
        let h = range_few around domain le is.0 in
        let k = test_few (behind sheet around bound (sort_of domain)) t (omega (arith, is.1.2)) is.2 in
        omega (arith, h, k)
    test_few around (any_of domain bound t) le is =
        let h = range_few around domain le is.0 in
        let k = test_few (behind sheet around bound (sort_of domain)) t (omega (arith, is.1.2)) is.2 in
        omega (arith, h, k)

    tests_few : (around : Around) (ts : Tests) → around.binders ≤ 4 → AreTests sheet around ts → around.binders + tests_depth ts ≤ 4
    tests_few around no_test le are = omega (arith, le)
    tests_few around (test t tests) le are =
        let h = test_few around t le are.0 in let k = tests_few around tests le are.1 in omega (arith, h, k)

    pub range_few : (around : Around) (domain : Domain) → around.binders ≤ 4 → IsRange sheet around domain → around.binders + domain_depth domain ≤ 4
    range_few around each_player le is = omega (arith, le)
    range_few around (each_card cards) le is = coll_few around cards le is
    range_few around (each_group cards attr) le is = absurd is

  pub domain_few : (around : Around) (domain : Domain) → around.binders ≤ 4 → IsDomain sheet around domain → around.binders + range_depth domain ≤ 4
  domain_few around each_player le is = omega (arith, le)
  domain_few around (each_card cards) le is = coll_few around cards le is
  domain_few around (each_group cards attr) le is = coll_few around cards le is.0

  pub alt_few : (around : Around) (alt : Alt) → around.binders ≤ 4 → IsAlt sheet around alt → BindsFew around.binders alt
  alt_few around (do_alt effects) le is = record { deep = omega (arith, le); long = omega (arith, le) }
  alt_few around (if_alt guard effects) le is = record { deep = test_few around guard le is.0; long = omega (arith, le) }
  alt_few around (any_alt domain bound alt) le is =
      let h = domain_few around domain le is.0 in
      let k = alt_few (behind sheet around bound (sort_of domain)) alt (omega (arith, is.1.2)) is.2 in
      let deep = k.deep in
      let long = k.long in
      record { deep = omega (arith, h, deep); long = omega (arith, long) }

  -- where no variable is in scope
  alts_few : (around : Around) (alts : List Alt) → around.binders ≡ 0 → AreAlts sheet around alts → AllByRecursion (BindsFew 0) alts
  alts_few around [] none are = tt
  alts_few around (alt ∷ alts) none are =
      let h = alt_few around alt (omega (arith, none)) are.0 in
      let deep = h.deep in
      let long = h.long in
      (record { deep = omega (arith, none, deep); long = omega (arith, none, long) }, alts_few around alts none are.1)

  abbrev AreFew : List (List Alt) → Type 0
  AreFew = AllByRecursion (AllByRecursion (BindsFew 0))

  few_both : (xs ys : List (List Alt)) → AreFew xs → AreFew ys → AreFew (xs ++ ys)
  few_both [] ys a b = b
  few_both (x ∷ xs) ys a b = (a.0, few_both xs ys a.1 b)

  few_if : (b : Bool) (alts : List Alt) → AllByRecursion (BindsFew 0) alts → AreFew (if b then alts ∷ [] else [])
  few_if true alts few = (few, tt)
  few_if false alts few = tt

  mutual
    item_few : (site : ℕ) (around : Around) (i : SheetItem) → around.binders ≡ 0 → IsItem sheet around i → AreFew (alts_in_item site i)
    item_few site around (do_item effects) none is = tt
    item_few site around (stage place game_class end body) none is = absurd is
    item_few site around (stage place player_class end body) none is = items_few site (in_stage player_class around) body none is.2
    item_few site around (stage place team_class end body) none is = items_few site (in_stage team_class around) body none is.2
    item_few site around (choice k alts) none is = few_if (k == site) alts (alts_few around alts none is.2)

    items_few : (site : ℕ) (around : Around) (items : SheetItems) → around.binders ≡ 0 → AreItems sheet around items → AreFew (alts_in site items)
    items_few site around no_item none are = tt
    items_few site around (item i items) none are =
        few_both (alts_in_item site i) (alts_in site items) (item_few site around i none are.0) (items_few site around items none are.1)

  first_few : (all : List (List Alt)) → AreFew all → AllByRecursion (BindsFew 0) (slice_index_or all 0 [])
  first_few [] few = tt
  first_few (alts ∷ all) few = few.0

  pub choice_few : (site : ℕ) → IsWellFormed sheet → All (BindsFew 0) (alts_at sheet site)
  choice_few site formed =
      All-from_recursion (BindsFew 0) (alts_at sheet site) (first_few (alts_in site sheet.items) (items_few site outside sheet.items refl formed.items))
