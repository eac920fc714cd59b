-- Which names a sheet mentions, in the printed order: setup lines in the order players, teams, decks, points; then the
-- items; then the score. A variable is mentioned where it is bound.
use Rattle.std.specs.Prelude.{ℕ, List, [], ◌∷◌, ◌++◌, length, map, flat_map}
use Rattle.std.specs.List.{range_with_len, zip}
use Rattle.rc_base.specs.Deck.{Groups, no_group, group, Branches, no_branch, branch, Entry}
use Rattle.rc_sheet_spec.specs.Sheet.{Loc, Num, CardExpr, card_var, top_card, bottom_card, max_card, min_card, CollExpr, group_var, cards_in, filtered, union_of, known_in, CollExprs, no_coll, coll, IntExpr, literal, number, size_of, sum_of, worth_of, add, subtract, multiply, Test, eq_int, eq_card, eq_attr, eq_who, ne, less, less_eq, more, more_eq, has_value, and_of, or_of, not_of, all_of, any_of, Tests, no_test, test, Domain, each_player, each_card, each_group, Effect, move, move_all, remember, forget, shuffle, set_to, increase, decrease, when, repeat, for_each, next_is, turn_round, peek, Effects, no_effect, effect, Alt, do_alt, if_alt, any_alt, SheetItem, do_item, stage, choice, SheetItems, no_item, item, DeckLine, Sheet}

-- what is mentioned, by its number
pub data Mention : Type 0 where
  attr_name : (number : ℕ) → Mention
  value_name : (number : ℕ) → Mention
  map_name : (number : ℕ) → Mention
  loc_name : (number : ℕ) → Mention
  num_name : (number : ℕ) → Mention
  var_name : (number : ℕ) → Mention

abbrev mutual
  pub in_groups : Groups → List Mention
  in_groups no_group = []
  in_groups (group attr branches rest) = attr_name attr ∷ in_branches branches ++ in_groups rest

  pub in_branches : Branches → List Mention
  in_branches no_branch = []
  in_branches (branch value inner rest) = value_name value ∷ in_groups inner ++ in_branches rest

abbrev pub in_deck : DeckLine → List Mention
in_deck line = loc_name line.loc ∷ in_groups line.groups

abbrev pub in_entry : Entry → List Mention
in_entry entry = attr_name entry.attr ∷ map value_name entry.values

-- each point map has the number of its line
abbrev pub in_map : ℕ × List Entry → List Mention
in_map line = map_name line.0 ∷ flat_map in_entry line.1

abbrev pub in_setup : Sheet → List Mention
in_setup sheet =
    flat_map in_deck sheet.decks ++ flat_map in_map (zip (range_with_len 0 (length sheet.points)) sheet.points)

abbrev pub in_loc : Loc → List Mention
in_loc loc = loc_name loc.name ∷ []

abbrev pub in_num : Num → List Mention
in_num num = num_name num.name ∷ []

abbrev mutual
  pub in_card : CardExpr → List Mention
  in_card (card_var var) = []
  in_card (top_card cards) = in_coll cards
  in_card (bottom_card cards) = in_coll cards
  in_card (max_card cards map) = in_coll cards ++ map_name map ∷ []
  in_card (min_card cards map) = in_coll cards ++ map_name map ∷ []

  pub in_coll : CollExpr → List Mention
  in_coll (group_var var) = []
  in_coll (cards_in loc) = in_loc loc
  in_coll (filtered cards bound t) = in_coll cards ++ var_name bound ∷ in_test t
  in_coll (union_of parts) = in_colls parts
  in_coll (known_in loc) = in_loc loc

  pub in_colls : CollExprs → List Mention
  in_colls no_coll = []
  in_colls (coll cards parts) = in_coll cards ++ in_colls parts

  pub in_int : IntExpr → List Mention
  in_int (literal value) = []
  in_int (number num) = in_num num
  in_int (size_of cards) = in_coll cards
  in_int (sum_of cards map) = in_coll cards ++ map_name map ∷ []
  in_int (worth_of card map) = in_card card ++ map_name map ∷ []
  in_int (add a b) = in_int a ++ in_int b
  in_int (subtract a b) = in_int a ++ in_int b
  in_int (multiply a b) = in_int a ++ in_int b

  pub in_test : Test → List Mention
  in_test (eq_int a b) = in_int a ++ in_int b
  in_test (eq_card a b) = in_card a ++ in_card b
  in_test (eq_attr a attr b attr') = in_card a ++ attr_name attr ∷ in_card b ++ attr_name attr' ∷ []
  in_test (eq_who who who') = []
  in_test (ne t) = in_test t
  in_test (less a b) = in_int a ++ in_int b
  in_test (less_eq a b) = in_int a ++ in_int b
  in_test (more a b) = in_int a ++ in_int b
  in_test (more_eq a b) = in_int a ++ in_int b
  in_test (has_value card attr value) = in_card card ++ attr_name attr ∷ value_name value ∷ []
  in_test (and_of tests) = in_tests tests
  in_test (or_of tests) = in_tests tests
  in_test (not_of t) = in_test t
  in_test (all_of domain bound t) = in_domain domain ++ var_name bound ∷ in_test t
  in_test (any_of domain bound t) = in_domain domain ++ var_name bound ∷ in_test t

  pub in_tests : Tests → List Mention
  in_tests no_test = []
  in_tests (test t tests) = in_test t ++ in_tests tests

  pub in_domain : Domain → List Mention
  in_domain each_player = []
  in_domain (each_card cards) = in_coll cards
  in_domain (each_group cards attr) = in_coll cards ++ attr_name attr ∷ []

abbrev mutual
  pub in_effect : Effect → List Mention
  in_effect (move card end loc) = in_card card ++ in_loc loc
  in_effect (move_all cards end loc) = in_coll cards ++ in_loc loc
  in_effect (remember card end loc) = in_card card ++ in_loc loc
  in_effect (forget card) = in_card card
  in_effect (shuffle loc) = in_loc loc
  in_effect (set_to num value) = in_num num ++ in_int value
  in_effect (increase num value) = in_num num ++ in_int value
  in_effect (decrease num value) = in_num num ++ in_int value
  in_effect (when t effects) = in_test t ++ in_effects effects
  in_effect (repeat times effects) = in_int times ++ in_effects effects
  in_effect (for_each domain bound effects) = in_domain domain ++ var_name bound ∷ in_effects effects
  in_effect (next_is who) = []
  in_effect turn_round = []
  in_effect (peek cards who) = in_coll cards

  pub in_effects : Effects → List Mention
  in_effects no_effect = []
  in_effects (effect e effects) = in_effect e ++ in_effects effects

abbrev pub in_alt : Alt → List Mention
in_alt (do_alt effects) = in_effects effects
in_alt (if_alt guard effects) = in_test guard ++ in_effects effects
in_alt (any_alt domain bound alt) = in_domain domain ++ var_name bound ∷ in_alt alt

abbrev mutual
  pub in_item : SheetItem → List Mention
  in_item (do_item effects) = in_effects effects
  in_item (stage place class end body) = in_test end ++ in_items body
  in_item (choice site alts) = flat_map in_alt alts

  pub in_items : SheetItems → List Mention
  in_items no_item = []
  in_items (item i items) = in_item i ++ in_items items

-- all of a sheet
abbrev pub mentions : Sheet → List Mention
mentions sheet = in_setup sheet ++ in_items sheet.items ++ in_int sheet.score

-- the numbers that are mentioned of one kind of names
abbrev pub attr_of : Mention → List ℕ
attr_of (attr_name n) = n ∷ []
attr_of mention = []

abbrev pub value_of : Mention → List ℕ
value_of (value_name n) = n ∷ []
value_of mention = []

abbrev pub map_of : Mention → List ℕ
map_of (map_name n) = n ∷ []
map_of mention = []

abbrev pub loc_of : Mention → List ℕ
loc_of (loc_name n) = n ∷ []
loc_of mention = []

abbrev pub num_of : Mention → List ℕ
num_of (num_name n) = n ∷ []
num_of mention = []

abbrev pub var_of : Mention → List ℕ
var_of (var_name n) = n ∷ []
var_of mention = []

-- the numbers of stages, and of choices, in the order of the text
abbrev mutual
  pub stages_in_item : SheetItem → List ℕ
  stages_in_item (do_item effects) = []
  stages_in_item (stage place class end body) = place ∷ stages_in body
  stages_in_item (choice site alts) = []

  pub stages_in : SheetItems → List ℕ
  stages_in no_item = []
  stages_in (item i items) = stages_in_item i ++ stages_in items

abbrev mutual
  pub sites_in_item : SheetItem → List ℕ
  sites_in_item (do_item effects) = []
  sites_in_item (stage place class end body) = sites_in body
  sites_in_item (choice site alts) = site ∷ []

  pub sites_in : SheetItems → List ℕ
  sites_in no_item = []
  sites_in (item i items) = sites_in_item i ++ sites_in items
