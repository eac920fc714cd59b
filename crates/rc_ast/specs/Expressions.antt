-- Expressions and tests as the pure trees have them. A row is a vector's items.
use Rattle.std.specs.Prelude.{List, map}
use Rattle.rc_sheet_spec.specs.Sheet.{card_var, top_card, bottom_card, max_card, min_card, group_var, cards_in, filtered, union_of, known_in, CollExprs, no_coll, coll, literal, number, size_of, sum_of, worth_of, add, subtract, multiply, eq_int, eq_card, eq_attr, eq_who, ne, less, less_eq, more, more_eq, has_value, and_of, or_of, not_of, all_of, any_of, Tests, no_test, test, each_player, each_card, each_group}
use Rattle.rc_sheet_spec.specs.Sheet.{CardExpr as PureCard, CollExpr as PureColl, IntExpr as PureInt, Test as PureTest, Domain as PureDomain}
use Rattle.rc_sheet_spec.specs.Lists.{colls_from, tests_from}
use Rattle.rc_ast.specs.declared.expressions.CardExpr.{CardExpr, Var as CardVar, Top', Bottom', Max', Min'}
use Rattle.rc_ast.specs.declared.expressions.CollExpr.{CollExpr, Var as GroupVar, Loc as CardsIn, Filter', Union', Known, Row_of-CollExpr, end_of-CollExpr, more_of-CollExpr}
use Rattle.rc_ast.specs.declared.expressions.IntExpr.{IntExpr, Lit, Num as Number, Size', Sum', Points', Add', Sub', Mul'}
use Rattle.rc_ast.specs.declared.expressions.Test.{Test, EqInt', EqCard', EqAttr', EqWho, Ne', Less', LessEq', More', MoreEq', Is', And', Or', Not', All', Any', Row_of-Test, end_of-Test, more_of-Test}
use Rattle.rc_ast.specs.declared.expressions.Domain.{Domain, Players, Coll as Cards, Parts}
use Rattle.rc_ast.specs.Names.{who_seen, loc_seen, num_seen}

abbrev mutual
  pub card_seen : CardExpr → PureCard
  card_seen (CardVar var) = card_var var
  card_seen (Top' p cards) = top_card (coll_seen cards)
  card_seen (Bottom' p cards) = bottom_card (coll_seen cards)
  card_seen (Max' p cards map) = max_card (coll_seen cards) map
  card_seen (Min' p cards map) = min_card (coll_seen cards) map

  pub coll_seen : CollExpr → PureColl
  coll_seen (GroupVar var) = group_var var
  coll_seen (CardsIn loc) = cards_in (loc_seen loc)
  coll_seen (Filter' p cards bound q t) = filtered (coll_seen cards) bound (test_seen t)
  coll_seen (Union' shape row) = union_of (colls_of_row row)
  coll_seen (Known loc) = known_in (loc_seen loc)

  pub colls_of_row : {m : _} → Row_of-CollExpr m → CollExprs
  colls_of_row end_of-CollExpr = no_coll
  colls_of_row (more_of-CollExpr c rest) = coll (coll_seen c) (colls_of_row rest)

  pub int_seen : IntExpr → PureInt
  int_seen (Lit value) = literal value
  int_seen (Number num) = number (num_seen num)
  int_seen (Size' p cards) = size_of (coll_seen cards)
  int_seen (Sum' p cards map) = sum_of (coll_seen cards) map
  int_seen (Points' p card map) = worth_of (card_seen card) map
  int_seen (Add' p a q b) = add (int_seen a) (int_seen b)
  int_seen (Sub' p a q b) = subtract (int_seen a) (int_seen b)
  int_seen (Mul' p a q b) = multiply (int_seen a) (int_seen b)

  pub test_seen : Test → PureTest
  test_seen (EqInt' p a q b) = eq_int (int_seen a) (int_seen b)
  test_seen (EqCard' p a q b) = eq_card (card_seen a) (card_seen b)
  test_seen (EqAttr' p a attr q b attr') = eq_attr (card_seen a) attr (card_seen b) attr'
  test_seen (EqWho a b) = eq_who (who_seen a) (who_seen b)
  test_seen (Ne' p t) = ne (test_seen t)
  test_seen (Less' p a q b) = less (int_seen a) (int_seen b)
  test_seen (LessEq' p a q b) = less_eq (int_seen a) (int_seen b)
  test_seen (More' p a q b) = more (int_seen a) (int_seen b)
  test_seen (MoreEq' p a q b) = more_eq (int_seen a) (int_seen b)
  test_seen (Is' p card attr value) = has_value (card_seen card) attr value
  test_seen (And' shape row) = and_of (tests_of_row row)
  test_seen (Or' shape row) = or_of (tests_of_row row)
  test_seen (Not' p t) = not_of (test_seen t)
  test_seen (All' domain bound p t) = all_of (domain_seen domain) bound (test_seen t)
  test_seen (Any' domain bound p t) = any_of (domain_seen domain) bound (test_seen t)

  pub tests_of_row : {m : _} → Row_of-Test m → Tests
  tests_of_row end_of-Test = no_test
  tests_of_row (more_of-Test t rest) = test (test_seen t) (tests_of_row rest)

  pub domain_seen : Domain → PureDomain
  domain_seen Players = each_player
  domain_seen (Cards cards) = each_card (coll_seen cards)
  domain_seen (Parts cards attr) = each_group (coll_seen cards) attr

-- the trees of a vector's items
abbrev pub colls_seen : List CollExpr → CollExprs
colls_seen cs = colls_from (map coll_seen cs)

abbrev pub tests_seen : List Test → Tests
tests_seen ts = tests_from (map test_seen ts)
