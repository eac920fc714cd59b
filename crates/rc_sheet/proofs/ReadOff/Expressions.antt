-- What is read stands for its form: cards, lists of cards, numbers, sides and tests.
use Rattle.std.proofs.Common.{◌≡◌, ℕ, true, List, Option, Some, None, slice_get, option_map, refl, sym, subst, ap, ◌∙◌, arith}
use Rattle.rc_base.specs.Literal.{integer}
use Rattle.rc_base.specs.Tree.{Tree, word, list, Trees, nil, cons}
use Rattle.rc_sheet_spec.specs.Sheet.{Sort, player_sort, card_sort, group_sort, Who, who_var, CardExpr, card_var, top_card, bottom_card, max_card, min_card, CollExpr, group_var, cards_in, union_of, known_in, no_coll, coll, IntExpr, literal, number, size_of, sum_of, worth_of, add, subtract, multiply, Test, eq_int, eq_card, eq_attr, eq_who, ne, less, less_eq, more, more_eq, and_of, or_of, not_of, no_test, test, each_player, each_card}
use Rattle.rc_sheet_spec.specs.Rows.{◌▸◌, End, Row, Atom}
use Rattle.rc_sheet_spec.specs.Naming.{Naming, Variable, Scope, bind, sort_of, class_of, Named}
use Rattle.rc_base.specs.Words.{is_variable}
use Rattle.rc_sheet_spec.specs.StandsExpressions.{StandsOwner, StandsCard, StandsColl, StandColls, StandsInt, StandsTest, StandTests, StandsRange}
use Rattle.rc_sheet_spec.specs.Sheet.{same_class}
use Rattle.rc_check.specs.Faults.{is_form_word}
use Rattle.rc_sheet.specs.ReadNames.{◌>>=◌, rule_at, name_at, binder_at, place_in, variable_in, loc_parts, loc_at, num_parts}
use Rattle.rc_sheet.specs.ReadExpressions.{range_of, Side, number_side, card_side, value_side, owner_side, side_of_sort, variable_side, side_word, equal_test, side_by, card_at, card_rule, coll_at, coll_rule, colls_at, int_at, int_rule, side_at, value_parts, test_at, test_rule, tests_at, range_at}
use Rattle.rc_sheet.proofs.Means.{Means, nothing, something, means_if, weaker, mapped, behind, paired, both_mean, either}
use Rattle.rc_sheet.proofs.ReadOff.Names.{word_form, Told, told_at, least_left, name_means, binder_means, classes_same, place_means, variable_is, variable_means, owner_rule_means, loc_parts_mean, loc_means, num_parts_mean, map_means}
use Rattle.rc_check.specs.declared.keyword.Keyword.TheVariants as keyword
use Rattle.rc_check.specs.declared.grammar.Symbol.TheVariants as symbol
use Rattle.rc_check.specs.declared.grammar.Rule.{Rule}
use Rattle.rc_check.specs.declared.grammar.Rule.TheVariants as rule

-- `player`, or else cards
pub range_of_means : (naming : Naming) (scope : Scope) (tree : Tree) (cards : Option CollExpr)
    → Means cards (λ c. StandsColl naming scope c tree)
    → Means (range_of tree cards) (λ domain. StandsRange naming scope domain tree)
range_of_means naming scope tree cards means =
    either (is_form_word keyword.Player tree) (Some each_player) (option_map each_card cards)
    (λ is. something each_player (word_form keyword.Player tree is))
    (λ is. mapped cards each_card means (λ c stands. stands))

-- a number that is written
literal_means : (bytes : List ℕ) → Means (integer bytes) (λ value. integer bytes ≡ Some value)
literal_means bytes = means_if (integer bytes) (λ value is. is)

-- SIDE
abbrev pub StandsValue : Naming → Scope → CardExpr → ℕ → Tree → Type 0
StandsValue naming scope card attr = Row (Atom "attr" ▸ StandsCard naming scope card ▸ Named naming.names.attrs attr ▸ End)

-- a side
abbrev pub StandsSide : Naming → Scope → Side → Tree → Type 0
StandsSide naming scope (number_side value) tree = StandsInt naming scope value tree
StandsSide naming scope (card_side card) tree = StandsCard naming scope card tree
StandsSide naming scope (value_side card attr) tree = StandsValue naming scope card attr tree
StandsSide naming scope (owner_side who) tree = StandsOwner scope who tree

-- a variable as a side
sort_side_means : (naming : Naming) (scope : Scope) (bytes : List ℕ) (from to var : ℕ) (sort : Sort)
    → slice_get scope var ≡ Some (record { word = bytes; sort = sort }) → is_variable bytes ≡ true
    → Means (side_of_sort var sort) (λ side. StandsSide naming scope side (word bytes from to))
sort_side_means naming scope bytes from to var player_sort found is = something (owner_side (who_var var)) (found, is)
sort_side_means naming scope bytes from to var card_sort found is = something (card_side (card_var var)) (found, is)
sort_side_means naming scope bytes from to var group_sort found is = nothing

-- the variable in a place of the scope
variable_side_means : (naming : Naming) (scope : Scope) (bytes : List ℕ) (from to var : ℕ) (variable : Variable)
    → slice_get scope var ≡ Some variable → bytes ≡ variable.word → is_variable bytes ≡ true
    → Means (variable_side var (slice_get scope var)) (λ side. StandsSide naming scope side (word bytes from to))
variable_side_means naming scope bytes from to var variable found same is =
    let variable' : Variable = record { word = bytes; sort = variable.sort } in
    let found' : slice_get scope var ≡ Some variable' = found ∙ ap Some (variable_is variable bytes variable.sort same refl) in
    subst (λ o. Means (variable_side var o) (λ side. StandsSide naming scope side (word bytes from to))) (sym found')
    (sort_side_means naming scope bytes from to var variable.sort found' is)

-- an atom as a side
side_word_means : (naming : Naming) (scope : Scope) (bytes : List ℕ) (from to : ℕ)
    → Means (side_word scope bytes) (λ side. StandsSide naming scope side (word bytes from to))
unfolding side_word
side_word_means naming scope bytes from to =
    either (is_variable bytes) (place_in scope bytes >>= (λ place. variable_side place (slice_get scope place)))
    (option_map (λ value. number_side (literal value)) (integer bytes))
    (λ is. behind (place_in scope bytes) (λ place. variable_side place (slice_get scope place)) (place_means scope bytes)
    (λ var found. variable_side_means naming scope bytes from to var found.0 found.1 found.2 is))
    (λ is. mapped (integer bytes) (λ value. number_side (literal value)) (literal_means bytes) (λ value stands. stands))

-- what a list is as a side, by its rule
side_by_means : (naming : Naming) (scope : Scope) (from to : ℕ) (rule : Rule) (parts : Trees) (value : Option IntExpr)
    (card : Option CardExpr) (pair : Option (CardExpr × ℕ)) (who : Option Who) → Told rule parts
    → Means value (λ v. StandsInt naming scope v (list parts from to))
    → Means card (λ c. StandsCard naming scope c (list parts from to))
    → Means pair (λ p. ((λ head. Unit {0}) ▸ StandsCard naming scope p.0 ▸ Named naming.names.attrs p.1 ▸ End) parts)
    → Means who (λ w. StandsOwner scope w (list parts from to))
    → Means (side_by rule value card pair who) (λ side. StandsSide naming scope side (list parts from to))
side_by_means naming scope from to rule.TopCard parts value card pair who told v c p w =
    mapped card card_side c (λ x stands. stands)
side_by_means naming scope from to rule.BottomCard parts value card pair who told v c p w =
    mapped card card_side c (λ x stands. stands)
side_by_means naming scope from to rule.MaxCard parts value card pair who told v c p w =
    mapped card card_side c (λ x stands. stands)
side_by_means naming scope from to rule.MinCard parts value card pair who told v c p w =
    mapped card card_side c (λ x stands. stands)
side_by_means naming scope from to rule.AttributeOf nil value card pair who told v c p w = absurd told
side_by_means naming scope from to rule.AttributeOf (cons head parts) value card pair who told v c p w =
    mapped pair (λ p. value_side p.0 p.1) p (λ x stands. (told.0, stands.1))
side_by_means naming scope from to rule.CurrentPlayer parts value card pair who told v c p w =
    mapped who owner_side w (λ x stands. stands)
side_by_means naming scope from to rule.CurrentTeam parts value card pair who told v c p w =
    mapped who owner_side w (λ x stands. stands)
side_by_means naming scope from to rule.TeamOf parts value card pair who told v c p w =
    mapped who owner_side w (λ x stands. stands)
side_by_means naming scope from to rule parts value card pair who told v c p w = mapped value number_side v (λ x stands. stands)

-- two sides of one sort
abbrev pub Compares : Naming → Scope → Test → Tree → Tree → Type 0
Compares naming scope (eq_int a b) x y = StandsInt naming scope a x × StandsInt naming scope b y
Compares naming scope (eq_card a b) x y = StandsCard naming scope a x × StandsCard naming scope b y
Compares naming scope (eq_attr a attr b attr') x y = StandsValue naming scope a attr x × StandsValue naming scope b attr' y
Compares naming scope (eq_who a b) x y = StandsOwner scope a x × StandsOwner scope b y × (class_of a ≡ class_of b)
Compares naming scope t x y = ⊥

-- what two sides make
equal_means : (naming : Naming) (scope : Scope) (a b : Side) (x y : Tree) → StandsSide naming scope a x
    → StandsSide naming scope b y
    → Means (equal_test a b) (λ t. Compares naming scope t x y)
equal_means naming scope (number_side a) (number_side b) x y p q = something (eq_int a b) (p, q)
equal_means naming scope (card_side a) (card_side b) x y p q = something (eq_card a b) (p, q)
equal_means naming scope (value_side a attr) (value_side b attr') x y p q = something (eq_attr a attr b attr') (p, q)
equal_means naming scope (owner_side a) (owner_side b) x y p q =
    either (same_class (class_of a) (class_of b)) (Some (eq_who a b)) None
    (λ is. something (eq_who a b) (p, q, classes_same (class_of a) (class_of b) is)) (λ is. nothing)
equal_means naming scope a b x y p q = nothing

-- the form of an equation
is_equal : (naming : Naming) (scope : Scope) (t : Test) (head x y : Tree) (from to : ℕ) → Atom "=" head
    → Compares naming scope t x y
    → StandsTest naming scope t (list (cons head (cons x (cons y nil))) from to)
is_equal naming scope (eq_int a b) head x y from to is two = (is, (two.0, (two.1, tt)))
is_equal naming scope (eq_card a b) head x y from to is two = (is, (two.0, (two.1, tt)))
is_equal naming scope (eq_attr a attr b attr') head x y from to is two = (is, (two.0, (two.1, tt)))
is_equal naming scope (eq_who a b) head x y from to is two = ((is, (two.0, (two.1, tt))), two.2)
is_equal naming scope t head x y from to is two = absurd two

-- the form of its denial
is_unequal : (naming : Naming) (scope : Scope) (t : Test) (head x y : Tree) (from to : ℕ) → Atom "!=" head
    → Compares naming scope t x y
    → StandsTest naming scope (ne t) (list (cons head (cons x (cons y nil))) from to)
is_unequal naming scope (eq_int a b) head x y from to is two = (is, (two.0, (two.1, tt)))
is_unequal naming scope (eq_card a b) head x y from to is two = (is, (two.0, (two.1, tt)))
is_unequal naming scope (eq_attr a attr b attr') head x y from to is two = (is, (two.0, (two.1, tt)))
is_unequal naming scope (eq_who a b) head x y from to is two = ((is, (two.0, (two.1, tt))), two.2)
is_unequal naming scope t head x y from to is two = absurd two

mutual
  -- CARD
  pub card_means : (naming : Naming) (scope : Scope) (tree : Tree)
      → Means (card_at naming scope tree) (λ card. StandsCard naming scope card tree)
  card_means naming scope (word bytes from to) =
      mapped (variable_in scope card_sort bytes) card_var (variable_means scope card_sort bytes from to) (λ var stands. stands)
  card_means naming scope (list parts from to) =
      behind (rule_at symbol.Card parts) _ (told_at symbol.Card parts)
      (λ rule told. card_rule_means naming scope from to rule parts told)

  -- by its rule
  card_rule_means : (naming : Naming) (scope : Scope) (from to : ℕ) (rule : Rule) (parts : Trees) → Told rule parts
      → Means (card_rule naming scope rule parts) (λ card. StandsCard naming scope card (list parts from to))
  card_rule_means naming scope from to rule.TopCard (cons head (cons cards nil)) told =
      mapped (coll_at naming scope cards) top_card (coll_means naming scope cards) (λ c stands. (told.0, (stands, tt)))
  card_rule_means naming scope from to rule.BottomCard (cons head (cons cards nil)) told =
      mapped (coll_at naming scope cards) bottom_card (coll_means naming scope cards) (λ c stands. (told.0, (stands, tt)))
  card_rule_means naming scope from to rule.MaxCard (cons head (cons cards (cons using (cons map nil)))) told =
      paired _ _ max_card (coll_means naming scope cards) (map_means naming using map)
      (λ p q one other. (told.0, (one, (other.0, (other.1, tt)))))
  card_rule_means naming scope from to rule.MinCard (cons head (cons cards (cons using (cons map nil)))) told =
      paired _ _ min_card (coll_means naming scope cards) (map_means naming using map)
      (λ p q one other. (told.0, (one, (other.0, (other.1, tt)))))
  card_rule_means naming scope from to rule parts told = nothing

  -- COLL
  pub coll_means : (naming : Naming) (scope : Scope) (tree : Tree)
      → Means (coll_at naming scope tree) (λ cards. StandsColl naming scope cards tree)
  coll_means naming scope (word bytes from to) =
      mapped (variable_in scope group_sort bytes) group_var (variable_means scope group_sort bytes from to) (λ var stands. stands)
  coll_means naming scope (list parts from to) =
      behind (rule_at symbol.Collection parts) _ (told_at symbol.Collection parts)
      (λ rule told. coll_rule_means naming scope from to rule parts told)

  -- by its rule
  pub coll_rule_means : (naming : Naming) (scope : Scope) (from to : ℕ) (rule : Rule) (parts : Trees) → Told rule parts
      → Means (coll_rule naming scope from rule parts) (λ cards. StandsColl naming scope cards (list parts from to))
  coll_rule_means naming scope from to rule.Location parts told =
      mapped (loc_parts naming scope from parts) cards_in (loc_parts_mean naming scope from to parts) (λ loc stands. stands)
  coll_rule_means naming scope from to rule.Filter (cons head (cons cards (cons variable (cons t nil)))) told =
      behind (coll_at naming scope cards) _ (coll_means naming scope cards)
      (λ c stands. behind (binder_at naming.names.vars scope variable) _ (binder_means naming scope variable)
      (λ bound binds. mapped (test_at naming (bind naming scope bound card_sort) t) _
      (test_means naming (bind naming scope bound card_sort) t)
      (λ t' holds. (told.0, (stands, (binds, (holds, tt)))))))
  coll_rule_means naming scope from to rule.Union (cons head parts) told =
      mapped (colls_at naming scope parts) union_of (colls_mean naming scope parts)
      (λ cs stand. (told.0, (least_left 2 2 _ parts told.2 (omega arith), stand)))
  coll_rule_means naming scope from to rule.Known (cons head (cons loc nil)) told =
      mapped (loc_at naming scope loc) known_in (loc_means naming scope loc) (λ l stands. (told.0, (stands, tt)))
  coll_rule_means naming scope from to rule parts told = nothing

  -- lists of cards, one after the other
  pub colls_mean : (naming : Naming) (scope : Scope) (parts : Trees)
      → Means (colls_at naming scope parts) (λ cs. StandColls naming scope cs parts)
  colls_mean naming scope nil = something no_coll tt
  colls_mean naming scope (cons part parts) =
      paired _ _ coll (coll_means naming scope part) (colls_mean naming scope parts) (λ p q one other. (one, other))

  -- INT
  pub int_means : (naming : Naming) (scope : Scope) (tree : Tree)
      → Means (int_at naming scope tree) (λ value. StandsInt naming scope value tree)
  int_means naming scope (word bytes from to) = mapped (integer bytes) literal (literal_means bytes) (λ value is. is)
  int_means naming scope (list parts from to) =
      behind (rule_at symbol.Integer parts) _ (told_at symbol.Integer parts)
      (λ rule told. int_rule_means naming scope from to rule parts told)

  -- by its rule
  int_rule_means : (naming : Naming) (scope : Scope) (from to : ℕ) (rule : Rule) (parts : Trees) → Told rule parts
      → Means (int_rule naming scope rule parts) (λ value. StandsInt naming scope value (list parts from to))
  int_rule_means naming scope from to rule.Counter parts told =
      mapped (num_parts naming scope parts) number (num_parts_mean naming scope from to parts) (λ num stands. stands)
  int_rule_means naming scope from to rule.Size (cons head (cons cards nil)) told =
      mapped (coll_at naming scope cards) size_of (coll_means naming scope cards) (λ c stands. (told.0, (stands, tt)))
  int_rule_means naming scope from to rule.Sum (cons head (cons cards (cons using (cons map nil)))) told =
      paired _ _ sum_of (coll_means naming scope cards) (map_means naming using map)
      (λ p q one other. (told.0, (one, (other.0, (other.1, tt)))))
  int_rule_means naming scope from to rule.PointsOf (cons head (cons card (cons using (cons map nil)))) told =
      paired _ _ worth_of (card_means naming scope card) (map_means naming using map)
      (λ p q one other. (told.0, (one, (other.0, (other.1, tt)))))
  int_rule_means naming scope from to rule.Plus (cons head (cons a (cons b nil))) told =
      paired _ _ add (int_means naming scope a) (int_means naming scope b) (λ p q one other. (told.0, (one, (other, tt))))
  int_rule_means naming scope from to rule.Minus (cons head (cons a (cons b nil))) told =
      paired _ _ subtract (int_means naming scope a) (int_means naming scope b) (λ p q one other. (told.0, (one, (other, tt))))
  int_rule_means naming scope from to rule.Times (cons head (cons a (cons b nil))) told =
      paired _ _ multiply (int_means naming scope a) (int_means naming scope b) (λ p q one other. (told.0, (one, (other, tt))))
  int_rule_means naming scope from to rule parts told = nothing

  -- SIDE
  pub side_means : (naming : Naming) (scope : Scope) (tree : Tree)
      → Means (side_at naming scope tree) (λ side. StandsSide naming scope side tree)
  side_means naming scope (word bytes from to) = side_word_means naming scope bytes from to
  side_means naming scope (list parts from to) =
      behind (rule_at symbol.Side parts) _ (told_at symbol.Side parts)
      (λ rule told. side_by_means naming scope from to rule parts _ _ _ _ told
      (int_rule_means naming scope from to rule parts told) (card_rule_means naming scope from to rule parts told)
      (value_parts_mean naming scope parts) (owner_rule_means scope from to rule parts told))

  -- `(attr CARD ATTR)`, whatever its head is
  value_parts_mean : (naming : Naming) (scope : Scope) (parts : Trees)
      → Means (value_parts naming scope parts)
      (λ p. ((λ head. Unit {0}) ▸ StandsCard naming scope p.0 ▸ Named naming.names.attrs p.1 ▸ End) parts)
  value_parts_mean naming scope (cons head (cons card (cons attr nil))) =
      weaker _ (both_mean _ _ (card_means naming scope card) (name_means naming.names.attrs attr))
      (λ p stand. (tt, (stand.0, (stand.1, tt))))
  value_parts_mean naming scope parts = nothing

  -- BOOL
  pub test_means : (naming : Naming) (scope : Scope) (tree : Tree)
      → Means (test_at naming scope tree) (λ t. StandsTest naming scope t tree)
  test_means naming scope (word bytes from to) = nothing
  test_means naming scope (list parts from to) =
      behind (rule_at symbol.Test parts) _ (told_at symbol.Test parts)
      (λ rule told. test_rule_means naming scope from to rule parts told)

  -- by its rule
  test_rule_means : (naming : Naming) (scope : Scope) (from to : ℕ) (rule : Rule) (parts : Trees) → Told rule parts
      → Means (test_rule naming scope rule parts) (λ t. StandsTest naming scope t (list parts from to))
  test_rule_means naming scope from to rule.Equal (cons head (cons a (cons b nil))) told =
      weaker _ (behind _ (λ p. equal_test p.0 p.1) (both_mean _ _ (side_means naming scope a) (side_means naming scope b))
      (λ p stand. equal_means naming scope p.0 p.1 a b stand.0 stand.1))
      (λ t two. is_equal naming scope t head a b from to told.0 two)
  test_rule_means naming scope from to rule.NotEqual (cons head (cons a (cons b nil))) told =
      mapped _ ne (behind _ (λ p. equal_test p.0 p.1) (both_mean _ _ (side_means naming scope a) (side_means naming scope b))
      (λ p stand. equal_means naming scope p.0 p.1 a b stand.0 stand.1))
      (λ t two. is_unequal naming scope t head a b from to told.0 two)
  test_rule_means naming scope from to rule.Less (cons head (cons a (cons b nil))) told =
      paired _ _ less (int_means naming scope a) (int_means naming scope b) (λ p q one other. (told.0, (one, (other, tt))))
  test_rule_means naming scope from to rule.LessOrEqual (cons head (cons a (cons b nil))) told =
      paired _ _ less_eq (int_means naming scope a) (int_means naming scope b) (λ p q one other. (told.0, (one, (other, tt))))
  test_rule_means naming scope from to rule.More (cons head (cons a (cons b nil))) told =
      paired _ _ more (int_means naming scope a) (int_means naming scope b) (λ p q one other. (told.0, (one, (other, tt))))
  test_rule_means naming scope from to rule.MoreOrEqual (cons head (cons a (cons b nil))) told =
      paired _ _ more_eq (int_means naming scope a) (int_means naming scope b) (λ p q one other. (told.0, (one, (other, tt))))
  test_rule_means naming scope from to rule.Is (cons head (cons card (cons attr (cons value nil)))) told =
      behind (card_at naming scope card) _ (card_means naming scope card)
      (λ c stands. behind (name_at naming.names.attrs attr) _ (name_means naming.names.attrs attr)
      (λ n named. mapped (name_at naming.names.values value) _ (name_means naming.names.values value)
      (λ v named'. (told.0, (stands, (named, (named', tt)))))))
  test_rule_means naming scope from to rule.And (cons head parts) told =
      mapped (tests_at naming scope parts) and_of (tests_mean naming scope parts)
      (λ ts stand. (told.0, (least_left 1 1 _ parts told.2 (omega arith), stand)))
  test_rule_means naming scope from to rule.Or (cons head parts) told =
      mapped (tests_at naming scope parts) or_of (tests_mean naming scope parts)
      (λ ts stand. (told.0, (least_left 1 1 _ parts told.2 (omega arith), stand)))
  test_rule_means naming scope from to rule.Not (cons head (cons t nil)) told =
      mapped (test_at naming scope t) not_of (test_means naming scope t) (λ t' stands. (told.0, (stands, tt)))
  test_rule_means naming scope from to rule.ForAll (cons head (cons range (cons variable (cons t nil)))) told =
      behind (range_of range (coll_at naming scope range)) _
      (range_of_means naming scope range (coll_at naming scope range) (coll_means naming scope range))
      (λ domain stands. behind (binder_at naming.names.vars scope variable) _ (binder_means naming scope variable)
      (λ bound binds. mapped (test_at naming (bind naming scope bound (sort_of domain)) t) _
      (test_means naming (bind naming scope bound (sort_of domain)) t)
      (λ t' holds. (told.0, (stands, (binds, (holds, tt)))))))
  test_rule_means naming scope from to rule.ForAny (cons head (cons range (cons variable (cons t nil)))) told =
      behind (range_of range (coll_at naming scope range)) _
      (range_of_means naming scope range (coll_at naming scope range) (coll_means naming scope range))
      (λ domain stands. behind (binder_at naming.names.vars scope variable) _ (binder_means naming scope variable)
      (λ bound binds. mapped (test_at naming (bind naming scope bound (sort_of domain)) t) _
      (test_means naming (bind naming scope bound (sort_of domain)) t)
      (λ t' holds. (told.0, (stands, (binds, (holds, tt)))))))
  test_rule_means naming scope from to rule parts told = nothing

  -- tests, one after the other
  pub tests_mean : (naming : Naming) (scope : Scope) (parts : Trees)
      → Means (tests_at naming scope parts) (λ ts. StandTests naming scope ts parts)
  tests_mean naming scope nil = something no_test tt
  tests_mean naming scope (cons part parts) =
      paired _ _ test (test_means naming scope part) (tests_mean naming scope parts) (λ p q one other. (one, other))

-- the players, or else cards
pub range_means : (naming : Naming) (scope : Scope) (tree : Tree)
    → Means (range_at naming scope tree) (λ domain. StandsRange naming scope domain tree)
range_means naming scope tree = range_of_means naming scope tree (coll_at naming scope tree) (coll_means naming scope tree)
