-- A sheet with each of its offsets 0, as they are in the form that is printed for it, and forms whose words are atoms.
use Rattle.std.specs.Prelude.{◌≡◌, true, map}
use Rattle.rc_base.specs.Tree.{Tree, word, list, Trees, nil, cons}
use Rattle.rc_sheet_spec.specs.Sheet.{Loc, CardExpr, card_var, top_card, bottom_card, max_card, min_card, CollExpr, group_var, cards_in, filtered, union_of, known_in, CollExprs, no_coll, coll, IntExpr, literal, number, size_of, sum_of, worth_of, add, subtract, multiply, Test, eq_int, eq_card, eq_attr, eq_who, ne, less, less_eq, more, more_eq, has_value, and_of, or_of, not_of, all_of, any_of, Tests, no_test, test, Domain, each_player, each_card, each_group, Effect, move, move_all, remember, forget, shuffle, set_to, increase, decrease, when, repeat, for_each, next_is, turn_round, peek, Effects, no_effect, effect, Alt, do_alt, if_alt, any_alt, SheetItem, do_item, stage, choice, SheetItems, no_item, item, Sheet}
use Rattle.rc_sheet_spec.specs.WellFormed.{is_atom}

-- each word of the form is 1 to 64 bytes that may stand in an atom, and each of its offsets is 0
abbrev mutual
  pub IsBare : Tree → Type 0
  IsBare (word bytes from to) = (is_atom bytes ≡ true) × (from ≡ 0) × (to ≡ 0)
  IsBare (list parts from to) = (from ≡ 0) × (to ≡ 0) × AreBare parts

  pub AreBare : Trees → Type 0
  AreBare nil = Unit {0}
  AreBare (cons tree trees) = IsBare tree × AreBare trees

abbrev pub loc_unplaced : Loc → Loc
loc_unplaced loc = record { who = loc.who; name = loc.name; at = 0 }

abbrev mutual
  pub card_unplaced : CardExpr → CardExpr
  card_unplaced (card_var var) = card_var var
  card_unplaced (top_card cards) = top_card (coll_unplaced cards)
  card_unplaced (bottom_card cards) = bottom_card (coll_unplaced cards)
  card_unplaced (max_card cards map) = max_card (coll_unplaced cards) map
  card_unplaced (min_card cards map) = min_card (coll_unplaced cards) map

  pub coll_unplaced : CollExpr → CollExpr
  coll_unplaced (group_var var) = group_var var
  coll_unplaced (cards_in loc) = cards_in (loc_unplaced loc)
  coll_unplaced (filtered cards bound t) = filtered (coll_unplaced cards) bound (test_unplaced t)
  coll_unplaced (union_of parts) = union_of (colls_unplaced parts)
  coll_unplaced (known_in loc) = known_in (loc_unplaced loc)

  pub colls_unplaced : CollExprs → CollExprs
  colls_unplaced no_coll = no_coll
  colls_unplaced (coll cards parts) = coll (coll_unplaced cards) (colls_unplaced parts)

  pub int_unplaced : IntExpr → IntExpr
  int_unplaced (literal value) = literal value
  int_unplaced (number num) = number num
  int_unplaced (size_of cards) = size_of (coll_unplaced cards)
  int_unplaced (sum_of cards map) = sum_of (coll_unplaced cards) map
  int_unplaced (worth_of card map) = worth_of (card_unplaced card) map
  int_unplaced (add a b) = add (int_unplaced a) (int_unplaced b)
  int_unplaced (subtract a b) = subtract (int_unplaced a) (int_unplaced b)
  int_unplaced (multiply a b) = multiply (int_unplaced a) (int_unplaced b)

  pub test_unplaced : Test → Test
  test_unplaced (eq_int a b) = eq_int (int_unplaced a) (int_unplaced b)
  test_unplaced (eq_card a b) = eq_card (card_unplaced a) (card_unplaced b)
  test_unplaced (eq_attr a attr b attr') = eq_attr (card_unplaced a) attr (card_unplaced b) attr'
  test_unplaced (eq_who who who') = eq_who who who'
  test_unplaced (ne t) = ne (test_unplaced t)
  test_unplaced (less a b) = less (int_unplaced a) (int_unplaced b)
  test_unplaced (less_eq a b) = less_eq (int_unplaced a) (int_unplaced b)
  test_unplaced (more a b) = more (int_unplaced a) (int_unplaced b)
  test_unplaced (more_eq a b) = more_eq (int_unplaced a) (int_unplaced b)
  test_unplaced (has_value card attr value) = has_value (card_unplaced card) attr value
  test_unplaced (and_of tests) = and_of (tests_unplaced tests)
  test_unplaced (or_of tests) = or_of (tests_unplaced tests)
  test_unplaced (not_of t) = not_of (test_unplaced t)
  test_unplaced (all_of domain bound t) = all_of (domain_unplaced domain) bound (test_unplaced t)
  test_unplaced (any_of domain bound t) = any_of (domain_unplaced domain) bound (test_unplaced t)

  pub tests_unplaced : Tests → Tests
  tests_unplaced no_test = no_test
  tests_unplaced (test t tests) = test (test_unplaced t) (tests_unplaced tests)

  pub domain_unplaced : Domain → Domain
  domain_unplaced each_player = each_player
  domain_unplaced (each_card cards) = each_card (coll_unplaced cards)
  domain_unplaced (each_group cards attr) = each_group (coll_unplaced cards) attr

abbrev mutual
  pub effect_unplaced : Effect → Effect
  effect_unplaced (move card end loc) = move (card_unplaced card) end (loc_unplaced loc)
  effect_unplaced (move_all cards end loc) = move_all (coll_unplaced cards) end (loc_unplaced loc)
  effect_unplaced (remember card end loc) = remember (card_unplaced card) end (loc_unplaced loc)
  effect_unplaced (forget card) = forget (card_unplaced card)
  effect_unplaced (shuffle loc) = shuffle (loc_unplaced loc)
  effect_unplaced (set_to num value) = set_to num (int_unplaced value)
  effect_unplaced (increase num value) = increase num (int_unplaced value)
  effect_unplaced (decrease num value) = decrease num (int_unplaced value)
  effect_unplaced (when t effects) = when (test_unplaced t) (effects_unplaced effects)
  effect_unplaced (repeat times effects) = repeat (int_unplaced times) (effects_unplaced effects)
  effect_unplaced (for_each domain bound effects) = for_each (domain_unplaced domain) bound (effects_unplaced effects)
  effect_unplaced (next_is who) = next_is who
  effect_unplaced turn_round = turn_round
  effect_unplaced (peek cards who) = peek (coll_unplaced cards) who

  pub effects_unplaced : Effects → Effects
  effects_unplaced no_effect = no_effect
  effects_unplaced (effect e effects) = effect (effect_unplaced e) (effects_unplaced effects)

abbrev pub alt_unplaced : Alt → Alt
alt_unplaced (do_alt effects) = do_alt (effects_unplaced effects)
alt_unplaced (if_alt guard effects) = if_alt (test_unplaced guard) (effects_unplaced effects)
alt_unplaced (any_alt domain bound alt) = any_alt (domain_unplaced domain) bound (alt_unplaced alt)

abbrev mutual
  pub item_unplaced : SheetItem → SheetItem
  item_unplaced (do_item effects) = do_item (effects_unplaced effects)
  item_unplaced (stage place class end body) = stage place class (test_unplaced end) (items_unplaced body)
  item_unplaced (choice site alts) = choice site (map alt_unplaced alts)

  pub items_unplaced : SheetItems → SheetItems
  items_unplaced no_item = no_item
  items_unplaced (item i items) = item (item_unplaced i) (items_unplaced items)

abbrev pub unplaced : Sheet → Sheet
unplaced sheet =
    record {
      players = sheet.players;
      teams = sheet.teams;
      names = sheet.names;
      decks = sheet.decks;
      points = sheet.points;
      locs = sheet.locs;
      nums = sheet.nums;
      items = items_unplaced sheet.items;
      best = sheet.best;
      score = int_unplaced sheet.score;
    }
