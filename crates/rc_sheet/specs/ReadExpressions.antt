-- What forms of expressions and tests say, in a scope.
use Rattle.std.specs.Prelude.{ℕ, if◌then◌else◌, List, slice_get, Option, Some, None, option_map}
use Rattle.rc_base.specs.Literal.{integer}
use Rattle.rc_base.specs.Tree.{Tree, word, list, Trees, nil, cons}
use Rattle.rc_sheet_spec.specs.Sheet.{Sort, player_sort, card_sort, group_sort, Who, who_var, CardExpr, card_var, top_card, bottom_card, max_card, min_card, CollExpr, group_var, cards_in, filtered, union_of, known_in, CollExprs, no_coll, coll, IntExpr, literal, number, size_of, sum_of, worth_of, add, subtract, multiply, Test, eq_int, eq_card, eq_attr, eq_who, ne, less, less_eq, more, more_eq, has_value, and_of, or_of, not_of, all_of, any_of, Tests, no_test, test, Domain, each_player, each_card}
use Rattle.rc_sheet_spec.specs.Naming.{Naming, Variable, Scope, bind, sort_of, class_of}
use Rattle.rc_sheet_spec.specs.Sheet.{same_class}
use Rattle.rc_check.specs.Faults.{is_variable, is_form_word}
use Rattle.rc_sheet.specs.ReadNames.{◌>>=◌, both, rule_at, name_at, binder_at, place_in, variable_in, owner_rule, loc_at, loc_parts, num_parts, map_at}
use Rattle.rc_check.specs.declared.keyword.Keyword.TheVariants as keyword
use Rattle.rc_check.specs.declared.grammar.Symbol.TheVariants as symbol
use Rattle.rc_check.specs.declared.grammar.Rule.{Rule}
use Rattle.rc_check.specs.declared.grammar.Rule.TheVariants as rule

-- the players, or else these cards
abbrev pub range_of : Tree → Option CollExpr → Option Domain
range_of tree cards = if is_form_word keyword.Player tree then Some each_player else option_map each_card cards

-- A side of an equation: a number, a card, a card's value of an attribute, or an owner.
pub data Side : Type 0 where
  number_side : IntExpr → Side
  card_side : CardExpr → Side
  value_side : (card : CardExpr) (attr : ℕ) → Side
  owner_side : Who → Side

-- a variable as a side, which is a player or a card
abbrev pub side_of_sort : ℕ → Sort → Option Side
side_of_sort place player_sort = Some (owner_side (who_var place))
side_of_sort place card_sort = Some (card_side (card_var place))
side_of_sort place group_sort = None

abbrev pub variable_side : ℕ → Option Variable → Option Side
variable_side place None = None
variable_side place (Some variable) = side_of_sort place variable.sort

-- an atom as a side, which is a variable or a number
unfoldable pub side_word : Scope → List ℕ → Option Side
side_word scope bytes =
    if is_variable bytes then place_in scope bytes >>= (λ place. variable_side place (slice_get scope place))
    else option_map (λ value. number_side (literal value)) (integer bytes)

-- what two sides of one sort make
abbrev pub equal_test : Side → Side → Option Test
equal_test (number_side a) (number_side b) = Some (eq_int a b)
equal_test (card_side a) (card_side b) = Some (eq_card a b)
equal_test (value_side a attr) (value_side b attr') = Some (eq_attr a attr b attr')
equal_test (owner_side a) (owner_side b) = if same_class (class_of a) (class_of b) then Some (eq_who a b) else None
equal_test a b = None

-- what a list says as a side, by its form
abbrev pub side_by : Rule → Option IntExpr → Option CardExpr → Option (CardExpr × ℕ) → Option Who → Option Side
side_by rule.TopCard value card pair who = option_map card_side card
side_by rule.BottomCard value card pair who = option_map card_side card
side_by rule.MaxCard value card pair who = option_map card_side card
side_by rule.MinCard value card pair who = option_map card_side card
side_by rule.AttributeOf value card pair who = option_map (λ p. value_side p.0 p.1) pair
side_by rule.CurrentPlayer value card pair who = option_map owner_side who
side_by rule.CurrentTeam value card pair who = option_map owner_side who
side_by rule.TeamOf value card pair who = option_map owner_side who
side_by rule value card pair who = option_map number_side value

abbrev mutual
  -- CARD
  pub card_at : Naming → Scope → Tree → Option CardExpr
  card_at naming scope (word bytes from to) = option_map card_var (variable_in scope card_sort bytes)
  card_at naming scope (list parts from to) = rule_at symbol.Card parts >>= λ rule. card_rule naming scope rule parts

  pub card_rule : Naming → Scope → Rule → Trees → Option CardExpr
  card_rule naming scope rule.TopCard (cons head (cons cards nil)) = option_map top_card (coll_at naming scope cards)
  card_rule naming scope rule.BottomCard (cons head (cons cards nil)) =
      option_map bottom_card (coll_at naming scope cards)
  card_rule naming scope rule.MaxCard (cons head (cons cards (cons using (cons map nil)))) =
      option_map (λ p. max_card p.0 p.1) (both (coll_at naming scope cards) (map_at naming using map))
  card_rule naming scope rule.MinCard (cons head (cons cards (cons using (cons map nil)))) =
      option_map (λ p. min_card p.0 p.1) (both (coll_at naming scope cards) (map_at naming using map))
  card_rule naming scope rule parts = None

  -- COLL, which begins here
  pub coll_at : Naming → Scope → Tree → Option CollExpr
  coll_at naming scope (word bytes from to) = option_map group_var (variable_in scope group_sort bytes)
  coll_at naming scope (list parts from to) =
      rule_at symbol.Collection parts >>= λ rule. coll_rule naming scope from rule parts

  pub coll_rule : Naming → Scope → ℕ → Rule → Trees → Option CollExpr
  coll_rule naming scope from rule.Location parts = option_map cards_in (loc_parts naming scope from parts)
  coll_rule naming scope from rule.Filter (cons head (cons cards (cons variable (cons t nil)))) =
      coll_at naming scope cards >>= λ cards.
      binder_at naming.names.vars scope variable >>= λ bound.
      option_map (λ t. filtered cards bound t) (test_at naming (bind naming scope bound card_sort) t)
  coll_rule naming scope from rule.Union (cons head parts) = option_map union_of (colls_at naming scope parts)
  coll_rule naming scope from rule.Known (cons head (cons loc nil)) = option_map known_in (loc_at naming scope loc)
  coll_rule naming scope from rule parts = None

  pub colls_at : Naming → Scope → Trees → Option CollExprs
  colls_at naming scope nil = Some no_coll
  colls_at naming scope (cons part parts) =
      option_map (λ p. coll p.0 p.1) (both (coll_at naming scope part) (colls_at naming scope parts))

  -- INT
  pub int_at : Naming → Scope → Tree → Option IntExpr
  int_at naming scope (word bytes from to) = option_map literal (integer bytes)
  int_at naming scope (list parts from to) = rule_at symbol.Integer parts >>= λ rule. int_rule naming scope rule parts

  pub int_rule : Naming → Scope → Rule → Trees → Option IntExpr
  int_rule naming scope rule.Counter parts = option_map number (num_parts naming scope parts)
  int_rule naming scope rule.Size (cons head (cons cards nil)) = option_map size_of (coll_at naming scope cards)
  int_rule naming scope rule.Sum (cons head (cons cards (cons using (cons map nil)))) =
      option_map (λ p. sum_of p.0 p.1) (both (coll_at naming scope cards) (map_at naming using map))
  int_rule naming scope rule.PointsOf (cons head (cons card (cons using (cons map nil)))) =
      option_map (λ p. worth_of p.0 p.1) (both (card_at naming scope card) (map_at naming using map))
  int_rule naming scope rule.Plus (cons head (cons a (cons b nil))) =
      option_map (λ p. add p.0 p.1) (both (int_at naming scope a) (int_at naming scope b))
  int_rule naming scope rule.Minus (cons head (cons a (cons b nil))) =
      option_map (λ p. subtract p.0 p.1) (both (int_at naming scope a) (int_at naming scope b))
  int_rule naming scope rule.Times (cons head (cons a (cons b nil))) =
      option_map (λ p. multiply p.0 p.1) (both (int_at naming scope a) (int_at naming scope b))
  int_rule naming scope rule parts = None

  -- SIDE
  pub side_at : Naming → Scope → Tree → Option Side
  side_at naming scope (word bytes from to) = side_word scope bytes
  side_at naming scope (list parts from to) =
      rule_at symbol.Side parts >>= λ rule.
      side_by rule (int_rule naming scope rule parts) (card_rule naming scope rule parts)
      (value_parts naming scope parts)
      (owner_rule scope rule parts)

  -- `(attr CARD ATTR)`
  pub value_parts : Naming → Scope → Trees → Option (CardExpr × ℕ)
  value_parts naming scope (cons head (cons card (cons attr nil))) =
      both (card_at naming scope card) (name_at naming.names.attrs attr)
  value_parts naming scope parts = None

  -- BOOL
  pub test_at : Naming → Scope → Tree → Option Test
  test_at naming scope (word bytes from to) = None
  test_at naming scope (list parts from to) = rule_at symbol.Test parts >>= λ rule. test_rule naming scope rule parts

  pub test_rule : Naming → Scope → Rule → Trees → Option Test
  test_rule naming scope rule.Equal (cons head (cons a (cons b nil))) =
      both (side_at naming scope a) (side_at naming scope b) >>= λ p. equal_test p.0 p.1
  test_rule naming scope rule.NotEqual (cons head (cons a (cons b nil))) =
      option_map ne (both (side_at naming scope a) (side_at naming scope b) >>= λ p. equal_test p.0 p.1)
  test_rule naming scope rule.Less (cons head (cons a (cons b nil))) =
      option_map (λ p. less p.0 p.1) (both (int_at naming scope a) (int_at naming scope b))
  test_rule naming scope rule.LessOrEqual (cons head (cons a (cons b nil))) =
      option_map (λ p. less_eq p.0 p.1) (both (int_at naming scope a) (int_at naming scope b))
  test_rule naming scope rule.More (cons head (cons a (cons b nil))) =
      option_map (λ p. more p.0 p.1) (both (int_at naming scope a) (int_at naming scope b))
  test_rule naming scope rule.MoreOrEqual (cons head (cons a (cons b nil))) =
      option_map (λ p. more_eq p.0 p.1) (both (int_at naming scope a) (int_at naming scope b))
  test_rule naming scope rule.Is (cons head (cons card (cons attr (cons value nil)))) =
      card_at naming scope card >>= λ card.
      name_at naming.names.attrs attr >>= λ attr.
      option_map (λ value. has_value card attr value) (name_at naming.names.values value)
  test_rule naming scope rule.And (cons head parts) = option_map and_of (tests_at naming scope parts)
  test_rule naming scope rule.Or (cons head parts) = option_map or_of (tests_at naming scope parts)
  test_rule naming scope rule.Not (cons head (cons t nil)) = option_map not_of (test_at naming scope t)
  test_rule naming scope rule.ForAll (cons head (cons range (cons variable (cons t nil)))) =
      range_of range (coll_at naming scope range) >>= λ domain.
      binder_at naming.names.vars scope variable >>= λ bound.
      option_map (λ t. all_of domain bound t) (test_at naming (bind naming scope bound (sort_of domain)) t)
  test_rule naming scope rule.ForAny (cons head (cons range (cons variable (cons t nil)))) =
      range_of range (coll_at naming scope range) >>= λ domain.
      binder_at naming.names.vars scope variable >>= λ bound.
      option_map (λ t. any_of domain bound t) (test_at naming (bind naming scope bound (sort_of domain)) t)
  test_rule naming scope rule parts = None

  pub tests_at : Naming → Scope → Trees → Option Tests
  tests_at naming scope nil = Some no_test
  tests_at naming scope (cons part parts) =
      option_map (λ p. test p.0 p.1) (both (test_at naming scope part) (tests_at naming scope parts))

-- the players, or else cards
abbrev pub range_at : Naming → Scope → Tree → Option Domain
range_at naming scope tree = range_of tree (coll_at naming scope tree)
