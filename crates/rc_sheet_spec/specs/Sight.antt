-- What a menu may depend on. A location that stands in a guard or a domain of a choice is of a kind that everybody sees, or
-- is the mover's own or that of the mover's team; but `size` may ask for the length of any location, and `known` for what the mover
-- knows of it. Effects, the ends of stages and the score may read anything.
use Rattle.std.specs.Prelude.{◌≡◌, ℕ, ◌≤◌, Bool, true, false, not, List, [], ◌∷◌, ◌++◌, map, flat_map, filter, slice_get, Option, Some, None, All}
use Rattle.std.specs.List.{Contains}
use Rattle.rc_sheet_spec.specs.Sheet.{LocKind, vloc, iloc, hloc, mem, LocName, Who, current_player, team_of_current, Loc, CardExpr, card_var, top_card, bottom_card, max_card, min_card, CollExpr, group_var, cards_in, filtered, union_of, known_in, CollExprs, no_coll, coll, IntExpr, literal, number, size_of, sum_of, worth_of, add, subtract, multiply, Test, eq_int, eq_card, eq_attr, eq_who, ne, less, less_eq, more, more_eq, has_value, and_of, or_of, not_of, all_of, any_of, Tests, no_test, test, Domain, each_player, each_card, each_group, Alt, do_alt, if_alt, any_alt, SheetItem, do_item, stage, choice, SheetItems, no_item, item, Sheet}

-- The locations that stand in an expression, however deep, but for one that is itself the argument of `size` or of `known`.
abbrev mutual
  pub locs_in_card : CardExpr → List Loc
  locs_in_card (card_var var) = []
  locs_in_card (top_card cards) = locs_in_coll cards
  locs_in_card (bottom_card cards) = locs_in_coll cards
  locs_in_card (max_card cards map) = locs_in_coll cards
  locs_in_card (min_card cards map) = locs_in_coll cards

  pub locs_in_coll : CollExpr → List Loc
  locs_in_coll (group_var var) = []
  locs_in_coll (cards_in loc) = loc ∷ []
  locs_in_coll (filtered cards bound t) = locs_in_coll cards ++ locs_in_test t
  locs_in_coll (union_of parts) = locs_in_colls parts
  locs_in_coll (known_in loc) = []

  pub locs_in_colls : CollExprs → List Loc
  locs_in_colls no_coll = []
  locs_in_colls (coll cards parts) = locs_in_coll cards ++ locs_in_colls parts

  pub locs_in_int : IntExpr → List Loc
  locs_in_int (literal value) = []
  locs_in_int (number num) = []
  locs_in_int (size_of (cards_in loc)) = []
  locs_in_int (size_of cards) = locs_in_coll cards
  locs_in_int (sum_of cards map) = locs_in_coll cards
  locs_in_int (worth_of card map) = locs_in_card card
  locs_in_int (add a b) = locs_in_int a ++ locs_in_int b
  locs_in_int (subtract a b) = locs_in_int a ++ locs_in_int b
  locs_in_int (multiply a b) = locs_in_int a ++ locs_in_int b

  pub locs_in_test : Test → List Loc
  locs_in_test (eq_int a b) = locs_in_int a ++ locs_in_int b
  locs_in_test (eq_card a b) = locs_in_card a ++ locs_in_card b
  locs_in_test (eq_attr a attr b attr') = locs_in_card a ++ locs_in_card b
  locs_in_test (eq_who who who') = []
  locs_in_test (ne t) = locs_in_test t
  locs_in_test (less a b) = locs_in_int a ++ locs_in_int b
  locs_in_test (less_eq a b) = locs_in_int a ++ locs_in_int b
  locs_in_test (more a b) = locs_in_int a ++ locs_in_int b
  locs_in_test (more_eq a b) = locs_in_int a ++ locs_in_int b
  locs_in_test (has_value card attr value) = locs_in_card card
  locs_in_test (and_of tests) = locs_in_tests tests
  locs_in_test (or_of tests) = locs_in_tests tests
  locs_in_test (not_of t) = locs_in_test t
  locs_in_test (all_of domain bound t) = locs_in_domain domain ++ locs_in_test t
  locs_in_test (any_of domain bound t) = locs_in_domain domain ++ locs_in_test t

  pub locs_in_tests : Tests → List Loc
  locs_in_tests no_test = []
  locs_in_tests (test t tests) = locs_in_test t ++ locs_in_tests tests

  pub locs_in_domain : Domain → List Loc
  locs_in_domain each_player = []
  locs_in_domain (each_card cards) = locs_in_coll cards
  locs_in_domain (each_group cards attr) = locs_in_coll cards

-- those in the guards and the domains of an alternative
abbrev pub locs_in_alt : Alt → List Loc
locs_in_alt (do_alt effects) = []
locs_in_alt (if_alt guard effects) = locs_in_test guard
locs_in_alt (any_alt domain bound alt) = locs_in_domain domain ++ locs_in_alt alt

-- those in the guards and the domains of the choices among items, inner ones too
abbrev mutual
  pub locs_in_item : SheetItem → List Loc
  locs_in_item (do_item effects) = []
  locs_in_item (stage place class end body) = locs_in_items body
  locs_in_item (choice site alts) = flat_map locs_in_alt alts

  pub locs_in_items : SheetItems → List Loc
  locs_in_items no_item = []
  locs_in_items (item i items) = locs_in_item i ++ locs_in_items items

-- The mover sees what is in a location of this kind and this owner, as the owner is written.
abbrev pub is_seen_by_mover : LocKind → Who → Bool
is_seen_by_mover vloc who = true
is_seen_by_mover mem who = true
is_seen_by_mover iloc current_player = true
is_seen_by_mover iloc team_of_current = true
is_seen_by_mover iloc who = false
is_seen_by_mover hloc who = false

abbrev pub is_named_and_seen : Option LocName → Who → Bool
is_named_and_seen (Some name) who = is_seen_by_mover name.kind who
is_named_and_seen None who = false

-- a location that may stand in a guard or a domain
abbrev pub is_in_sight : List LocName → Loc → Bool
is_in_sight names loc = is_named_and_seen (slice_get names loc.name) loc.who

-- the locations that may not stand where they do, in the order of the sheet
abbrev pub unseen_locs : Sheet → List Loc
unseen_locs sheet = filter (λ loc. not (is_in_sight sheet.locs loc)) (locs_in_items sheet.items)

abbrev pub unseen_offsets : Sheet → List ℕ
unseen_offsets sheet = map (λ loc. loc.at) (unseen_locs sheet)

-- the sheet keeps the rule
abbrev pub IsInSight : Sheet → Type 0
IsInSight sheet = unseen_locs sheet ≡ []

-- the first location that breaks the rule begins here
pub record IsUnseen (sheet : Sheet) (at : ℕ) : Type 0 where
  pub stands : Contains (unseen_offsets sheet) at
  pub first : All (λ other. at ≤ other) (unseen_offsets sheet)
