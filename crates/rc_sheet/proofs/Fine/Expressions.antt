-- What a form's fine parts say is found and well formed: cards, lists of cards, numbers, sides and tests.
use Rattle.std.proofs.Common.{◌≡◌, ℕ, zero, suc, ◌≤◌, Bool, true, false, ◌&&◌, ◌||◌, cond, List, [], ◌∷◌, length, ℤ, pos, neg_ℤ, int_le, Option, Some, None, slice_get, option_map, refl, sym, subst, ap, ◌∙◌, arith}
use Rattle.std.specs.List.{list_any}
use Rattle.std.proofs.Math.Bool.{and-false}
use Rattle.std.proofs.lemmas.Bool.{and_parts, not-false, true≢false}
use Rattle.std.proofs.lemmas.Int.{ints}
use Rattle.rc_base.specs.Literal.{integer}
use Rattle.rc_base.specs.Tree.{Tree, word, list, Trees, nil, cons}
use Rattle.rc_sheet_spec.specs.Sheet.{Class, game_class, player_class, team_class, Sort, player_sort, card_sort, group_sort, Who, game, who_var, CardExpr, card_var, top_card, bottom_card, max_card, min_card, group_var, cards_in, union_of, known_in, no_coll, coll, IntExpr, literal, number, size_of, sum_of, worth_of, add, subtract, multiply, Test, eq_int, eq_card, eq_attr, eq_who, ne, less, less_eq, more, more_eq, and_of, or_of, not_of, no_test, test, Domain, each_player, each_card, Sheet}
use Rattle.rc_sheet_spec.specs.Lists.{coll_list, test_list}
use Rattle.rc_base.specs.Clamp.{IsWithinClamp, largest_number}
use Rattle.rc_sheet_spec.specs.Naming.{Scope, sort_of, class_of, sheet_naming}
use Rattle.rc_sheet_spec.specs.WellFormed.{Around, is_equality, IsAttr, HasSort, IsOwner, IsCard, IsColl, AreColls, IsInt, IsTest, AreTests, IsRange}
use Rattle.rc_sheet_spec.specs.Sheet.{same_sort, same_class}
use Rattle.rc_check.specs.SecondParts.{Standing, standing_in, sort_by_form, sort_over, bytes_of}
use Rattle.rc_check.specs.SecondFaults.{sorts_at, same_side, side_of_variable, side_of_form, side_of, differ, is_other_side}
use Rattle.rc_check.specs.SecondNames.{some_of}
use Rattle.rc_check.specs.SecondFaults.{side_of_sort as sort_side}
use Rattle.rc_check.specs.SecondFaults.{variable_in as variable_found}
use Rattle.rc_check.specs.declared.role.SideSort.{SideSort}
use Rattle.rc_check.specs.declared.role.SideSort.TheVariants as sorts
use Rattle.rc_check.specs.Faults.{is_word, is_variable, is_within, is_number, atom_faults, may_begin, plain_rule, rule_of, count}
use Rattle.rc_check.specs.declared.keyword.Keyword.TheVariants as keyword
use Rattle.rc_check.specs.declared.grammar.Symbol.TheVariants as symbol
use Rattle.rc_check.specs.declared.grammar.Rule.{Rule}
use Rattle.rc_check.specs.declared.grammar.Rule.TheVariants as rule
use Rattle.rc_check.specs.declared.fault.SheetKind.TheVariants.{Shape, Number}
use Rattle.rc_sheet.specs.ReadNames.{◌>>=◌, both, place_in, variable_in, owner_rule}
use Rattle.rc_sheet.specs.ReadExpressions.{Side, number_side, card_side, value_side, owner_side, side_of_sort, variable_side, side_word, equal_test, side_by, card_at, card_rule, coll_at, coll_rule, colls_at, int_at, int_rule, side_at, value_parts, test_at, test_rule, tests_at, range_at}
use Rattle.rc_sheet.proofs.Fine.Common.{Given}
use Rattle.rc_sheet.proofs.Finds.{Finds, finds, finds_if, implies, makes, follows, follows_this, finds_both, joins, where_true, whether}
use Rattle.rc_sheet.proofs.GoodParts.{◌▹◌, Each, by_parts, good_form}
use Rattle.rc_sheet.proofs.GoodForms.{from_one, plain_part, Says, with_two, with_three, with_four, behind_one, behind_two, list_says_by, list_says, rest_good}
use Rattle.rc_sheet.proofs.Fine.Names.{passes_test, no_keyword, Gives, Good, GoodForm, IsBound, bound_variable, has_its_sort, variable_finds, word_is_variable, IsOwnerOf, current_player_finds, current_team_finds, team_of_finds, attr_finds, value_finds, map_finds, binder_finds, behind_binder, loc_finds, loc_parts_finds, num_parts_finds}
use Rattle.rc_sheet.proofs.ReadOff.Names.{class_same}

-- a number that is written, within its range
pub integer_finds : (bytes : List ℕ) → is_number bytes ≡ true → Finds (integer bytes) IsWithinClamp
integer_finds bytes is = by (integer bytes) is
  where
    by : (found : Option ℤ) → is_within (neg_ℤ (pos largest_number)) (pos largest_number) found ≡ true → Finds found IsWithinClamp
    by None is = absurd cc
    by (Some z) is =
        let both = and_parts (int_le (neg_ℤ (pos largest_number)) z) (int_le z (pos largest_number)) is in
        let least = both.0 in
        let most = both.1 in
        finds z (omega (arith, ints, least), omega (arith, ints, most))

-- the first of four forms that a head may begin is no fifth
card_form : (h f u k p : Bool) (found : Rule)
    → cond (h && true) (Some rule.Location) (cond (f && true) (Some rule.Filter) (cond (u && true) (Some rule.Union)
    (cond (k && true) (Some rule.Known) None)))
    ≡ Some found
    → sort_by_form (cond (h && true) (Some rule.Location) (cond (f && true) (Some rule.Filter) (cond (u && true) (Some rule.Union)
    (cond (k && true) (Some rule.Known) (cond (p && true) (Some rule.Partition) None))))) ≡ card_sort
card_form true f u k p found is = refl
card_form false true u k p found is = refl
card_form false false true k p found is = refl
card_form false false false true p found is = refl
card_form false false false false p found is = absurd cc

-- a list that is one of cards is none of groups
pub no_groups : (parts : Trees) (found : Rule) → rule_of symbol.Collection parts ≡ Some found
    → sort_by_form (rule_of symbol.Domain parts) ≡ card_sort
no_groups nil found is = refl
no_groups (cons head parts) found is =
    let h = may_begin symbol.Holder head in
    let f = may_begin (symbol.Word keyword.Filter) head in
    let u = may_begin (symbol.Word keyword.Union) head in
    let k = may_begin (symbol.Word keyword.Known) head in
    let p = may_begin (symbol.Word keyword.Partition) head in
    let is' : plain_rule symbol.Collection head ≡ Some found = rw (and-false h, and-false f, and-false u, and-false k) at is in
    rw (and-false h, and-false f, and-false u, and-false k, and-false p) (card_form h f u k p found is')

-- the sort of a side, and of an owner of this class
abbrev pub side_of_class : Class → SideSort
side_of_class game_class = sorts.Value
side_of_class player_class = sorts.Player
side_of_class team_class = sorts.Team

-- the sort of what is read as a side
abbrev pub sort_of_side : Side → SideSort
sort_of_side (number_side value) = sorts.Number
sort_of_side (card_side card) = sorts.Card
sort_of_side (value_side card attr) = sorts.Value
sort_of_side (owner_side who) = side_of_class (class_of who)

-- owners of one sort as sides are of one class
same_of_sides : (class class' : Class) → same_side (side_of_class class) (side_of_class class') ≡ true → class ≡ class'
same_of_sides game_class game_class is = refl
same_of_sides player_class player_class is = refl
same_of_sides team_class team_class is = refl
same_of_sides class class' is = absurd cc

-- sides that don't differ are of one sort
no_difference : (first second : Option SideSort) (sort sort' : SideSort) → first ≡ Some sort → second ≡ Some sort'
    → differ first second ≡ false → same_side sort sort' ≡ true
no_difference first second sort sort' is is' other =
    not-false (same_side sort sort')
    (subst (λ o. differ (Some sort) o ≡ false) is' (subst (λ o. differ o second ≡ false) is other))

module _ (sheet : Sheet) (given : Given) where
  -- a side is well formed, and of this sort
  abbrev pub IsSide : Around → Side → Type 0
  IsSide around (number_side value) = IsInt sheet around value
  IsSide around (card_side card) = IsCard sheet around card
  IsSide around (value_side card attr) = IsCard sheet around card × IsAttr sheet attr
  IsSide around (owner_side who) = IsOwner around who

  -- where this sort is expected
  abbrev pub SideAt : Around → Option SideSort → Side → Type 0
  SideAt around sort side = IsSide around side × (sort ≡ Some (sort_of_side side))

  -- what a variable runs over, of the sort that its tree tells
  abbrev pub RangeAt : Around → Tree → Domain → Type 0
  RangeAt around tree domain = IsRange sheet around domain × (sort_over tree ≡ sort_of domain)

  -- a tree at each place of an expression
  pub record Reads (tree : Tree) : Type 0 where
    pub card : (at : Standing) → at.place ≡ symbol.Card → Good sheet given at tree
        → Finds (card_at (sheet_naming sheet) at.around.scope tree) (IsCard sheet at.around)
    pub coll : (at : Standing) → at.place ≡ symbol.Collection → Good sheet given at tree
        → Finds (coll_at (sheet_naming sheet) at.around.scope tree) (IsColl sheet at.around)
    pub range : (at : Standing) → at.place ≡ symbol.Members → Good sheet given at tree
        → Finds (range_at (sheet_naming sheet) at.around.scope tree) (RangeAt at.around tree)
    pub int : (at : Standing) → at.place ≡ symbol.Integer → Good sheet given at tree
        → Finds (int_at (sheet_naming sheet) at.around.scope tree) (IsInt sheet at.around)
    pub side : (at : Standing) → at.place ≡ symbol.Side → Good sheet given at tree
        → Finds (side_at (sheet_naming sheet) at.around.scope tree) (SideAt at.around (side_of at.around.scope tree))
    pub test : (at : Standing) → at.place ≡ symbol.Test → Good sheet given at tree
        → Finds (test_at (sheet_naming sheet) at.around.scope tree) (IsTest sheet at.around)

  -- a form of this rule says what is P
  abbrev SaysCard : Standing → Rule → Trees → Type 0
  SaysCard at rule parts =
      Says given (sheet_naming sheet) Reads at rule (card_rule (sheet_naming sheet) at.around.scope) (IsCard sheet at.around) parts

  -- a list of cards
  abbrev SaysColl : Standing → ℕ → Rule → Trees → Type 0
  SaysColl at from rule parts =
      Says given (sheet_naming sheet) Reads at rule (coll_rule (sheet_naming sheet) at.around.scope from) (IsColl sheet at.around) parts

  -- a number
  abbrev SaysInt : Standing → Rule → Trees → Type 0
  SaysInt at rule parts =
      Says given (sheet_naming sheet) Reads at rule (int_rule (sheet_naming sheet) at.around.scope) (IsInt sheet at.around) parts

  -- a test
  abbrev SaysTest : Standing → Rule → Trees → Type 0
  SaysTest at rule parts =
      Says given (sheet_naming sheet) Reads at rule (test_rule (sheet_naming sheet) at.around.scope) (IsTest sheet at.around) parts

  -- a test, in what is around it
  abbrev TestIn : Tree → Around → Type 0
  TestIn t around = Finds (test_at (sheet_naming sheet) around.scope t) (IsTest sheet around)

  -- CARD: `(top COLL)`
  top_says : (at : Standing) (parts : Trees) → SaysCard at rule.TopCard parts
  top_says at parts =
      with_two given (sheet_naming sheet) Reads (λ n. refl)
      (λ head cards each form. makes _ top_card (each.1.0.coll _ refl form.good.1.0) (λ c is. is))

  -- `(bottom COLL)`
  bottom_says : (at : Standing) (parts : Trees) → SaysCard at rule.BottomCard parts
  bottom_says at parts =
      with_two given (sheet_naming sheet) Reads (λ n. refl)
      (λ head cards each form. makes _ bottom_card (each.1.0.coll _ refl form.good.1.0) (λ c is. is))

  -- `(max COLL using MAP)`
  max_says : Gives sheet given → (at : Standing) (parts : Trees) → SaysCard at rule.MaxCard parts
  max_says gives at parts =
      with_four given (sheet_naming sheet) Reads (λ n. refl)
      (λ head cards using map each form. joins _ _ max_card (each.1.0.coll _ refl form.good.1.0)
      (map_finds sheet given gives _ _ using map refl form.good.1.1.0 refl refl form.good.1.1.1.0) (λ c n is used. (is, used)))

  -- `(min COLL using MAP)`
  min_says : Gives sheet given → (at : Standing) (parts : Trees) → SaysCard at rule.MinCard parts
  min_says gives at parts =
      with_four given (sheet_naming sheet) Reads (λ n. refl)
      (λ head cards using map each form. joins _ _ min_card (each.1.0.coll _ refl form.good.1.0)
      (map_finds sheet given gives _ _ using map refl form.good.1.1.0 refl refl form.good.1.1.1.0) (λ c n is used. (is, used)))

  -- the sort of a list of cards, as what a variable runs over
  coll_sort : (at : Standing) (tree : Tree) → at.place ≡ symbol.Collection → Good sheet given at tree
      → sort_over tree ≡ card_sort
  coll_sort at (word bytes from to) here good =
      let variable = word_is_variable sheet given at symbol.Collection bytes from to here refl good in
      ap (λ b. cond b player_sort card_sort) (no_keyword bytes variable).1
  coll_sort at (list parts from to) here good =
      let found = good_form given (sheet_naming sheet) at parts from to good in
      no_groups parts found.0 (ap (λ p. rule_of p parts) (sym here) ∙ found.1.told)

  -- COLL: `(HOLDER KIND NAME)`
  pub location_says : (at : Standing) (from : ℕ) (parts : Trees) → SaysColl at from rule.Location parts
  location_says at from parts =
      record { says = λ each form. makes _ cards_in (loc_parts_finds sheet given at parts from form) (λ loc is. is.0) }

  -- `(filter COLL 'V BOOL)`
  pub filter_says : (at : Standing) (from : ℕ) (parts : Trees) → SaysColl at from rule.Filter parts
  filter_says at from parts =
      with_four given (sheet_naming sheet) Reads (λ n. refl)
      (λ head cards variable t each form. follows _ _ (each.1.0.coll _ refl form.good.1.0)
      (λ c is. follows _ _ (binder_finds sheet given at _ _ variable form.fine.fits refl refl form.good.1.1.0)
      (λ bound binds. makes _ _
      (behind_binder sheet given (TestIn t) at.around (bytes_of variable) bound card_sort (sort_over cards) binds
      (coll_sort _ cards refl form.good.1.0) (each.1.1.1.0.test _ refl form.good.1.1.1.0))
      (λ t' holds. (is, binds.0, holds)))))

  -- lists of cards, one after the other
  colls_find : (at : Standing) (parts : Trees) → at.place ≡ symbol.Collection → Each Reads parts
      → Each (Good sheet given at) parts
      → Finds (colls_at (sheet_naming sheet) at.around.scope parts)
      (λ cs. AreColls sheet at.around cs × (length (coll_list cs) ≡ count parts))
  colls_find at nil here each good = finds no_coll (tt, refl)
  colls_find at (cons part parts) here each good =
      joins _ _ coll (each.0.coll at here good.0) (colls_find at parts here each.1 good.1)
      (λ c cs is are. ((is, are.0), ap (λ n. suc n) are.1))

  -- how the lists of cards of a union stand
  union_parts : (at : Standing) (all : Trees) (i : ℕ) → 1 ≤ i
      → standing_in at rule.Union all i ≡ Some (plain_part at symbol.Collection all)
  union_parts at all zero le = absurd (omega (arith, le))
  union_parts at all (suc zero) le = refl
  union_parts at all (suc (suc i)) le = refl

  -- `(union COLL COLL+)`
  pub union_says : (at : Standing) (from : ℕ) (parts : Trees) → SaysColl at from rule.Union parts
  union_says at from parts =
      behind_two given (sheet_naming sheet) Reads (λ n. refl)
      (λ head first rest some each form.
      let alike = rest_good given (sheet_naming sheet) Reads at rule.Union (cons head (cons first rest)) _ 1 (cons first rest)
      (union_parts at (cons head (cons first rest))) form.good.1 in
      makes _ union_of (colls_find _ (cons first rest) refl each.1 alike)
      (λ cs are. let long = are.1 in (omega (arith, some, long), are.0)))

  -- `(known LOC)`
  pub known_says : (at : Standing) (from : ℕ) (parts : Trees) → SaysColl at from rule.Known parts
  known_says at from parts =
      with_two given (sheet_naming sheet) Reads (λ n. refl)
      (λ head loc each form. makes _ known_in (loc_finds sheet given _ loc refl form.good.1.0) (λ l is. (form.fine.fits, is.0)))

  -- a list of cards
  coll_word_finds : (at : Standing) (bytes : List ℕ) (from to : ℕ) → is_variable bytes ≡ true
      → sorts_at at.place ≡ group_sort ∷ [] → Good sheet given at (word bytes from to)
      → Finds (coll_at (sheet_naming sheet) at.around.scope (word bytes from to)) (IsColl sheet at.around)
  coll_word_finds at bytes from to is sorts good =
      makes (variable_in at.around.scope group_sort bytes) group_var
      (variable_finds sheet given at group_sort bytes is sorts good.fine.0) (λ var has. has)

  -- as a list, also where a range may stand
  coll_list_finds : (at : Standing) (parts : Trees) (from to : ℕ) → rule_of at.place parts ≡ rule_of symbol.Collection parts
      → Each Reads parts → Good sheet given at (list parts from to)
      → Finds (coll_at (sheet_naming sheet) at.around.scope (list parts from to)) (IsColl sheet at.around)
  coll_list_finds at parts from to same each good =
      list_says_by given (sheet_naming sheet) Reads (coll_rule (sheet_naming sheet) at.around.scope from) symbol.Collection at parts
      from to same each good
      (location_says at from parts ▹ filter_says at from parts ▹ union_says at from parts ▹ known_says at from parts ▹ tt)

  -- what a variable runs over, but in an alternative
  pub range_word_finds : (at : Standing) (bytes : List ℕ) (from to : ℕ)
      → (is_word keyword.Player bytes || is_variable bytes) ≡ true
      → sorts_at at.place ≡ group_sort ∷ [] → Good sheet given at (word bytes from to)
      → Finds (range_at (sheet_naming sheet) at.around.scope (word bytes from to)) (RangeAt at.around (word bytes from to))
  range_word_finds at bytes from to taken sorts good =
      whether (is_word keyword.Player bytes) (Some each_player) _
      (λ is. finds each_player (tt, ap (λ b. cond b player_sort card_sort) is))
      (λ other. makes _ each_card
      (coll_word_finds at bytes from to (ap (λ b. b || is_variable bytes) (sym other) ∙ taken) sorts good)
      (λ c is. (is, ap (λ b. cond b player_sort card_sort) other)))

  -- a range that is a list has the forms of a list of cards
  same_ranges : (parts : Trees) → rule_of symbol.Members parts ≡ rule_of symbol.Collection parts
  same_ranges nil = refl
  same_ranges (cons head parts) = refl

  -- as a list
  range_list_finds : (at : Standing) (parts : Trees) (from to : ℕ) → at.place ≡ symbol.Members
      → Each Reads parts → Good sheet given at (list parts from to)
      → Finds (range_at (sheet_naming sheet) at.around.scope (list parts from to)) (RangeAt at.around (list parts from to))
  range_list_finds at parts from to here each good =
      let same = ap (λ p. rule_of p parts) here ∙ same_ranges parts in
      let found = good_form given (sheet_naming sheet) at parts from to good in
      makes _ each_card (coll_list_finds at parts from to same each good)
      (λ c is. (is, no_groups parts found.0 (sym same ∙ found.1.told)))

  -- INT: `(HOLDER sto NAME)`
  counter_says : (at : Standing) (parts : Trees) → SaysInt at rule.Counter parts
  counter_says at parts =
      record { says = λ each form. makes _ number (num_parts_finds sheet given at parts form) (λ num is. is) }

  -- `(size COLL)`
  size_says : (at : Standing) (parts : Trees) → SaysInt at rule.Size parts
  size_says at parts =
      with_two given (sheet_naming sheet) Reads (λ n. refl)
      (λ head cards each form. makes _ size_of (each.1.0.coll _ refl form.good.1.0) (λ c is. is))

  -- `(sum COLL using MAP)`
  sum_says : Gives sheet given → (at : Standing) (parts : Trees) → SaysInt at rule.Sum parts
  sum_says gives at parts =
      with_four given (sheet_naming sheet) Reads (λ n. refl)
      (λ head cards using map each form. joins _ _ sum_of (each.1.0.coll _ refl form.good.1.0)
      (map_finds sheet given gives _ _ using map refl form.good.1.1.0 refl refl form.good.1.1.1.0) (λ c n is used. (is, used)))

  -- `(points CARD using MAP)`
  points_says : Gives sheet given → (at : Standing) (parts : Trees) → SaysInt at rule.PointsOf parts
  points_says gives at parts =
      with_four given (sheet_naming sheet) Reads (λ n. refl)
      (λ head card using map each form. joins _ _ worth_of (each.1.0.card _ refl form.good.1.0)
      (map_finds sheet given gives _ _ using map refl form.good.1.1.0 refl refl form.good.1.1.1.0) (λ c n is used. (is, used)))

  -- `(+ INT INT)`
  plus_says : (at : Standing) (parts : Trees) → SaysInt at rule.Plus parts
  plus_says at parts =
      with_three given (sheet_naming sheet) Reads (λ n. refl)
      (λ head a b each form. joins _ _ add (each.1.0.int _ refl form.good.1.0) (each.1.1.0.int _ refl form.good.1.1.0)
      (λ a b is is'. (is, is')))

  -- `(- INT INT)`
  minus_says : (at : Standing) (parts : Trees) → SaysInt at rule.Minus parts
  minus_says at parts =
      with_three given (sheet_naming sheet) Reads (λ n. refl)
      (λ head a b each form. joins _ _ subtract (each.1.0.int _ refl form.good.1.0) (each.1.1.0.int _ refl form.good.1.1.0)
      (λ a b is is'. (is, is')))

  -- `(* INT INT)`
  times_says : (at : Standing) (parts : Trees) → SaysInt at rule.Times parts
  times_says at parts =
      with_three given (sheet_naming sheet) Reads (λ n. refl)
      (λ head a b each form. joins _ _ multiply (each.1.0.int _ refl form.good.1.0) (each.1.1.0.int _ refl form.good.1.1.0)
      (λ a b is is'. (is, is')))

  -- SIDE: what a list says as a side
  abbrev side_read : Scope → Rule → Trees → Option Side
  side_read scope rule parts =
      side_by rule (int_rule (sheet_naming sheet) scope rule parts) (card_rule (sheet_naming sheet) scope rule parts)
      (value_parts (sheet_naming sheet) scope parts) (owner_rule scope rule parts)

  -- a side of the sort that its form tells
  abbrev SaysSide : Standing → Rule → Trees → Type 0
  SaysSide at rule parts =
      Says given (sheet_naming sheet) Reads at rule (side_read at.around.scope)
      (SideAt at.around (side_of_form (rule_of symbol.Side parts))) parts

  -- its sort is the one that its form tells
  sort_told : (at : Standing) (parts : Trees) (found : Rule) (sort : SideSort) → at.place ≡ symbol.Side
      → rule_of at.place parts ≡ Some found → side_of_form (Some found) ≡ Some sort
      → side_of_form (rule_of symbol.Side parts) ≡ Some sort
  sort_told at parts found sort here told is =
      ap (λ p. side_of_form (rule_of p parts)) (sym here) ∙ ap side_of_form told ∙ is

  -- a number as a side
  int_side : (at : Standing) (found : Rule) (parts : Trees) → at.place ≡ symbol.Side
      → ((value : Option IntExpr) (card : Option CardExpr) (pair : Option (CardExpr × ℕ)) (who : Option Who)
      → side_by found value card pair who ≡ option_map number_side value)
      → side_of_form (Some found) ≡ Some sorts.Number → SaysInt at found parts → SaysSide at found parts
  int_side at found parts here same sort says =
      record {
        says = λ each form.
            subst (λ o. Finds o (SideAt at.around (side_of_form (rule_of symbol.Side parts)))) (sym (same _ _ _ _))
            (makes _ number_side (says.says each form) (λ v is. (is, sort_told at parts found _ here form.told sort)));
      }

  -- a card as a side
  card_as_side : (at : Standing) (found : Rule) (parts : Trees) → at.place ≡ symbol.Side
      → ((value : Option IntExpr) (card : Option CardExpr) (pair : Option (CardExpr × ℕ)) (who : Option Who)
      → side_by found value card pair who ≡ option_map card_side card)
      → side_of_form (Some found) ≡ Some sorts.Card → SaysCard at found parts → SaysSide at found parts
  card_as_side at found parts here same sort says =
      record {
        says = λ each form.
            subst (λ o. Finds o (SideAt at.around (side_of_form (rule_of symbol.Side parts)))) (sym (same _ _ _ _))
            (makes _ card_side (says.says each form) (λ v is. (is, sort_told at parts found _ here form.told sort)));
      }

  -- an owner as a side
  owner_as_side : (at : Standing) (found : Rule) (parts : Trees) (class : Class) → at.place ≡ symbol.Side
      → ((value : Option IntExpr) (card : Option CardExpr) (pair : Option (CardExpr × ℕ)) (who : Option Who)
      → side_by found value card pair who ≡ option_map owner_side who)
      → side_of_form (Some found) ≡ Some (side_of_class class)
      → (GoodForm sheet given at found parts → Finds (owner_rule at.around.scope found parts)
      (IsOwnerOf sheet given at.around class))
      → SaysSide at found parts
  owner_as_side at found parts class here same sort says =
      record {
        says = λ each form.
            subst (λ o. Finds o (SideAt at.around (side_of_form (rule_of symbol.Side parts)))) (sym (same _ _ _ _))
            (makes _ owner_side (says form)
            (λ who is. (is.0, sort_told at parts found _ here form.told sort ∙ ap (λ c. Some (side_of_class c)) (sym is.1))));
      }

  -- a card's value
  values_say : Gives sheet given → (at : Standing) (parts : Trees)
      → Says given (sheet_naming sheet) Reads at rule.AttributeOf
      (λ found parts. value_parts (sheet_naming sheet) at.around.scope parts)
      (λ p. IsCard sheet at.around p.0 × IsAttr sheet p.1) parts
  values_say gives at parts =
      with_three given (sheet_naming sheet) Reads (λ n. refl)
      (λ head card attr each form. finds_both _ _ (each.1.0.card _ refl form.good.1.0)
      (attr_finds sheet given gives _ attr refl refl form.good.1.1.0))

  -- the same as a side
  attribute_says : Gives sheet given → (at : Standing) (parts : Trees) → at.place ≡ symbol.Side
      → SaysSide at rule.AttributeOf parts
  attribute_says gives at parts here =
      record {
        says = λ each form. makes _ (λ p. value_side p.0 p.1) ((values_say gives at parts).says each form)
            (λ p is. (is, sort_told at parts rule.AttributeOf _ here form.told refl));
      }

  -- a variable as a side, of its sort
  sort_finds : (around : Around) (var : ℕ) (sort : Sort) → HasSort around sort var
      → list_any (same_sort sort) (player_sort ∷ card_sort ∷ []) ≡ true
      → Finds (side_of_sort var sort) (SideAt around (sort_side sort))
  sort_finds around var player_sort has fits = finds (owner_side (who_var var)) (has, refl)
  sort_finds around var card_sort has fits = finds (card_side (card_var var)) (has, refl)
  sort_finds around var group_sort has fits = absurd cc

  -- a variable in scope as a side
  variable_side_finds : (at : Standing) (bytes : List ℕ) → is_variable bytes ≡ true → at.place ≡ symbol.Side
      → (bound : IsBound sheet given at bytes)
      → Finds (variable_side bound.var (slice_get at.around.scope bound.var))
      (SideAt at.around (cond (is_variable bytes) (side_of_variable (variable_found at.around.scope bytes)) (Some sorts.Number)))
  variable_side_finds at bytes is here bound =
      let sort = bound.variable.sort in
      let told : cond (is_variable bytes) (side_of_variable (variable_found at.around.scope bytes)) (Some sorts.Number)
      ≡ sort_side sort
      = ap (λ b. cond b (side_of_variable (variable_found at.around.scope bytes)) (Some sorts.Number)) is
      ∙ ap side_of_variable bound.found in
      let fits = subst (λ p. list_any (same_sort sort) (sorts_at p) ≡ true) here bound.fits in
      subst
      (λ o. Finds (variable_side bound.var o) (SideAt at.around
      (cond (is_variable bytes) (side_of_variable (variable_found at.around.scope bytes)) (Some sorts.Number)))) (sym bound.there)
      (implies _ (sort_finds at.around bound.var sort (has_its_sort sheet given at bytes sort bound refl) fits)
      (λ side has. (has.0, told ∙ has.1)))

  -- an atom as a side
  side_word_finds : (at : Standing) (bytes : List ℕ) (from to : ℕ) → at.place ≡ symbol.Side
      → Good sheet given at (word bytes from to)
      → Finds (side_word at.around.scope bytes) (SideAt at.around (side_of at.around.scope (word bytes from to)))
  unfolding side_word
  side_word_finds at bytes from to here good =
      let taken = passes_test (is_variable bytes || is_number bytes) Number from
      (subst (λ p. atom_faults p bytes from ≡ []) here good.shaped) in
      whether (is_variable bytes)
      (place_in at.around.scope bytes >>= (λ place. variable_side place (slice_get at.around.scope place))) _
      (λ is.
      let bound = bound_variable sheet given at bytes is (ap (λ p. some_of (sorts_at p)) here) good.fine.0 in
      follows_this (place_in at.around.scope bytes) bound.var _ (finds_if _ bound.var bound.placed refl)
      (variable_side_finds at bytes is here bound))
      (λ other. makes (integer bytes) (λ value. number_side (literal value))
      (integer_finds bytes (ap (λ b. b || is_number bytes) (sym other) ∙ taken))
      (λ v is. (is, ap (λ b. cond b (side_of_variable (variable_found at.around.scope bytes)) (Some sorts.Number)) other)))

  -- a list as a side
  side_list_finds : Gives sheet given → (at : Standing) (parts : Trees) (from to : ℕ) → at.place ≡ symbol.Side
      → Each Reads parts → Good sheet given at (list parts from to)
      → Finds (side_at (sheet_naming sheet) at.around.scope (list parts from to))
      (SideAt at.around (side_of at.around.scope (list parts from to)))
  side_list_finds gives at parts from to here each good =
      list_says given (sheet_naming sheet) Reads (side_read at.around.scope) symbol.Side at parts from to here each good
      (int_side at rule.Counter parts here (λ v c p w. refl) refl (counter_says at parts)
      ▹ int_side at rule.Size parts here (λ v c p w. refl) refl (size_says at parts)
      ▹ int_side at rule.Sum parts here (λ v c p w. refl) refl (sum_says gives at parts)
      ▹ int_side at rule.PointsOf parts here (λ v c p w. refl) refl (points_says gives at parts)
      ▹ int_side at rule.Plus parts here (λ v c p w. refl) refl (plus_says at parts)
      ▹ int_side at rule.Minus parts here (λ v c p w. refl) refl (minus_says at parts)
      ▹ int_side at rule.Times parts here (λ v c p w. refl) refl (times_says at parts)
      ▹ card_as_side at rule.TopCard parts here (λ v c p w. refl) refl (top_says at parts)
      ▹ card_as_side at rule.BottomCard parts here (λ v c p w. refl) refl (bottom_says at parts)
      ▹ card_as_side at rule.MaxCard parts here (λ v c p w. refl) refl (max_says gives at parts)
      ▹ card_as_side at rule.MinCard parts here (λ v c p w. refl) refl (min_says gives at parts)
      ▹ owner_as_side at rule.CurrentPlayer parts player_class here (λ v c p w. refl) refl
      (current_player_finds sheet given at parts)
      ▹ owner_as_side at rule.CurrentTeam parts team_class here (λ v c p w. refl) refl (current_team_finds sheet given at parts)
      ▹ owner_as_side at rule.TeamOf parts team_class here (λ v c p w. refl) refl (team_of_finds sheet given at parts)
      ▹ attribute_says gives at parts here
      ▹ tt)

  -- BOOL: two sides of one sort make an equation
  abbrev pub IsEquation : Around → Test → Type 0
  IsEquation around t = (is_equality t ≡ true) × IsTest sheet around t

  -- an owner is of no other sort, on either side
  abbrev Apart : SideSort → Who → Type 0
  Apart sort who =
      (same_side sort (side_of_class (class_of who)) ≡ false) × (same_side (side_of_class (class_of who)) sort ≡ false)

  -- where it is no game
  owner_differs : (around : Around) (who : Who) → IsOwner around who
      → Apart sorts.Number who × Apart sorts.Card who × Apart sorts.Value who
  owner_differs around game is = absurd is
  owner_differs around who is = ((refl, refl), (refl, refl), (refl, refl))

  -- what two sides of one sort make
  equal_finds : (around : Around) (a b : Side) → IsSide around a → IsSide around b
      → same_side (sort_of_side a) (sort_of_side b) ≡ true → Finds (equal_test a b) (IsEquation around)
  equal_finds around (number_side a) (number_side b) p q is = finds (eq_int a b) (refl, (p, q))
  equal_finds around (card_side a) (card_side b) p q is = finds (eq_card a b) (refl, (p, q))
  equal_finds around (value_side a attr) (value_side b attr') p q is =
      finds (eq_attr a attr b attr') (refl, (p.0, p.1, q.0, q.1))
  equal_finds around (owner_side a) (owner_side b) p q is =
      let same = same_of_sides (class_of a) (class_of b) is in
      where_true (same_class (class_of a) (class_of b)) (Some (eq_who a b)) None
      (ap (λ c. same_class c (class_of b)) same ∙ class_same (class_of b)) (finds (eq_who a b) (refl, (p, q, same)))
  equal_finds around (owner_side who) (number_side b) p q is = absurd (true≢false (sym is ∙ (owner_differs around who p).0.1))
  equal_finds around (owner_side who) (card_side b) p q is = absurd (true≢false (sym is ∙ (owner_differs around who p).1.1))
  equal_finds around (owner_side who) (value_side b attr) p q is = absurd (true≢false (sym is ∙ (owner_differs around who p).2.1))
  equal_finds around (number_side a) (owner_side who) p q is = absurd (true≢false (sym is ∙ (owner_differs around who q).0.0))
  equal_finds around (card_side a) (owner_side who) p q is = absurd (true≢false (sym is ∙ (owner_differs around who q).1.0))
  equal_finds around (value_side a attr) (owner_side who) p q is = absurd (true≢false (sym is ∙ (owner_differs around who q).2.0))
  equal_finds around a b p q is = absurd cc

  -- what two sides say that don't differ
  compares : (around : Around) (a b : Tree)
      → Finds (side_at (sheet_naming sheet) around.scope a) (SideAt around (side_of around.scope a))
      → Finds (side_at (sheet_naming sheet) around.scope b) (SideAt around (side_of around.scope b))
      → differ (side_of around.scope a) (side_of around.scope b) ≡ false
      → Finds (both (side_at (sheet_naming sheet) around.scope a) (side_at (sheet_naming sheet) around.scope b)
      >>= λ p. equal_test p.0 p.1) (IsEquation around)
  compares around a b first second fits =
      follows _ (λ p. equal_test p.0 p.1) (finds_both _ _ first second)
      (λ p are. equal_finds around p.0 p.1 are.0.0 are.1.0
      (no_difference _ _ (sort_of_side p.0) (sort_of_side p.1) are.0.1 are.1.1 fits))

  -- a second side is of the sort of the first
  sides_fit : (at : Standing) (tree : Tree) → Good sheet given at tree → is_other_side at at.role ≡ false
  sides_fit at (word bytes from to) good = good.fine.0.sides_fit
  sides_fit at (list parts from to) good =
      (good_form given (sheet_naming sheet) at parts from to good).1.fine.sides_fit

  -- `(= SIDE SIDE)`
  equal_says : (at : Standing) (parts : Trees) → SaysTest at rule.Equal parts
  equal_says at parts =
      with_three given (sheet_naming sheet) Reads (λ n. refl)
      (λ head a b each form. implies _
      (compares at.around a b (each.1.0.side _ refl form.good.1.0) (each.1.1.0.side _ refl form.good.1.1.0)
      (sides_fit _ b form.good.1.1.0))
      (λ t is. is.1))

  -- `(!= SIDE SIDE)`
  unequal_says : (at : Standing) (parts : Trees) → SaysTest at rule.NotEqual parts
  unequal_says at parts =
      with_three given (sheet_naming sheet) Reads (λ n. refl)
      (λ head a b each form. makes _ ne
      (compares at.around a b (each.1.0.side _ refl form.good.1.0) (each.1.1.0.side _ refl form.good.1.1.0)
      (sides_fit _ b form.good.1.1.0))
      (λ t is. is))

  -- `(< INT INT)`
  less_says : (at : Standing) (parts : Trees) → SaysTest at rule.Less parts
  less_says at parts =
      with_three given (sheet_naming sheet) Reads (λ n. refl)
      (λ head a b each form. joins _ _ less (each.1.0.int _ refl form.good.1.0) (each.1.1.0.int _ refl form.good.1.1.0)
      (λ a b is is'. (is, is')))

  -- `(<= INT INT)`
  less_eq_says : (at : Standing) (parts : Trees) → SaysTest at rule.LessOrEqual parts
  less_eq_says at parts =
      with_three given (sheet_naming sheet) Reads (λ n. refl)
      (λ head a b each form. joins _ _ less_eq (each.1.0.int _ refl form.good.1.0) (each.1.1.0.int _ refl form.good.1.1.0)
      (λ a b is is'. (is, is')))

  -- `(> INT INT)`
  more_says : (at : Standing) (parts : Trees) → SaysTest at rule.More parts
  more_says at parts =
      with_three given (sheet_naming sheet) Reads (λ n. refl)
      (λ head a b each form. joins _ _ more (each.1.0.int _ refl form.good.1.0) (each.1.1.0.int _ refl form.good.1.1.0)
      (λ a b is is'. (is, is')))

  -- `(>= INT INT)`
  more_eq_says : (at : Standing) (parts : Trees) → SaysTest at rule.MoreOrEqual parts
  more_eq_says at parts =
      with_three given (sheet_naming sheet) Reads (λ n. refl)
      (λ head a b each form. joins _ _ more_eq (each.1.0.int _ refl form.good.1.0) (each.1.1.0.int _ refl form.good.1.1.0)
      (λ a b is is'. (is, is')))

  -- `(is CARD ATTR VALUE)`
  is_says : Gives sheet given → (at : Standing) (parts : Trees) → SaysTest at rule.Is parts
  is_says gives at parts =
      with_four given (sheet_naming sheet) Reads (λ n. refl)
      (λ head card attr value each form. follows _ _ (each.1.0.card _ refl form.good.1.0)
      (λ c is. follows _ _ (attr_finds sheet given gives _ attr refl refl form.good.1.1.0)
      (λ n named. makes _ _ (value_finds sheet given gives _ value refl refl form.good.1.1.1.0)
      (λ v valued. (is, named, valued)))))

  -- tests, one after the other
  tests_find : (at : Standing) (parts : Trees) → at.place ≡ symbol.Test → Each Reads parts
      → Each (Good sheet given at) parts
      → Finds (tests_at (sheet_naming sheet) at.around.scope parts)
      (λ ts. AreTests sheet at.around ts × (length (test_list ts) ≡ count parts))
  tests_find at nil here each good = finds no_test (tt, refl)
  tests_find at (cons part parts) here each good =
      joins _ _ test (each.0.test at here good.0) (tests_find at parts here each.1 good.1)
      (λ t ts is are. ((is, are.0), ap (λ n. suc n) are.1))

  -- `(and BOOL+)`
  and_says : (at : Standing) (parts : Trees) → SaysTest at rule.And parts
  and_says at parts =
      behind_one given (sheet_naming sheet) Reads (λ n. refl)
      (λ head rest some each form.
      let alike = rest_good given (sheet_naming sheet) Reads at rule.And (cons head rest)
      (plain_part at symbol.Test (cons head rest)) 1 rest
      (from_one _ (λ j. refl)) form.good.1 in
      makes _ and_of (tests_find _ rest refl each.1 alike) (λ ts are. let long = are.1 in (omega (arith, some, long), are.0)))

  -- `(or BOOL+)`
  or_says : (at : Standing) (parts : Trees) → SaysTest at rule.Or parts
  or_says at parts =
      behind_one given (sheet_naming sheet) Reads (λ n. refl)
      (λ head rest some each form.
      let alike = rest_good given (sheet_naming sheet) Reads at rule.Or (cons head rest)
      (plain_part at symbol.Test (cons head rest)) 1 rest
      (from_one _ (λ j. refl)) form.good.1 in
      makes _ or_of (tests_find _ rest refl each.1 alike) (λ ts are. let long = are.1 in (omega (arith, some, long), are.0)))

  -- `(not BOOL)`
  not_says : (at : Standing) (parts : Trees) → SaysTest at rule.Not parts
  not_says at parts =
      with_two given (sheet_naming sheet) Reads (λ n. refl)
      (λ head t each form. makes _ not_of (each.1.0.test _ refl form.good.1.0) (λ t is. is))

  -- `(all RANGE 'V BOOL)`
  all_says : (at : Standing) (parts : Trees) → SaysTest at rule.ForAll parts
  all_says at parts =
      with_four given (sheet_naming sheet) Reads (λ n. refl)
      (λ head range variable t each form. follows _ _ (each.1.0.range _ refl form.good.1.0)
      (λ domain is. follows _ _ (binder_finds sheet given at _ _ variable form.fine.fits refl refl form.good.1.1.0)
      (λ bound binds. makes _ _
      (behind_binder sheet given (TestIn t) at.around (bytes_of variable) bound (sort_of domain) (sort_over range) binds
      is.1 (each.1.1.1.0.test _ refl form.good.1.1.1.0))
      (λ t' holds. (is.0, binds.0, holds)))))

  -- `(any RANGE 'V BOOL)`
  any_says : (at : Standing) (parts : Trees) → SaysTest at rule.ForAny parts
  any_says at parts =
      with_four given (sheet_naming sheet) Reads (λ n. refl)
      (λ head range variable t each form. follows _ _ (each.1.0.range _ refl form.good.1.0)
      (λ domain is. follows _ _ (binder_finds sheet given at _ _ variable form.fine.fits refl refl form.good.1.1.0)
      (λ bound binds. makes _ _
      (behind_binder sheet given (TestIn t) at.around (bytes_of variable) bound (sort_of domain) (sort_over range) binds
      is.1 (each.1.1.1.0.test _ refl form.good.1.1.1.0))
      (λ t' holds. (is.0, binds.0, holds)))))

  -- a test, by its forms
  test_list_finds : Gives sheet given → (at : Standing) (parts : Trees) (from to : ℕ) → at.place ≡ symbol.Test
      → Each Reads parts → Good sheet given at (list parts from to)
      → Finds (test_at (sheet_naming sheet) at.around.scope (list parts from to)) (IsTest sheet at.around)
  test_list_finds gives at parts from to here each good =
      list_says given (sheet_naming sheet) Reads (test_rule (sheet_naming sheet) at.around.scope) symbol.Test at parts from to here
      each good
      (equal_says at parts ▹ unequal_says at parts ▹ less_says at parts ▹ less_eq_says at parts ▹ more_says at parts
      ▹ more_eq_says at parts ▹ is_says gives at parts ▹ and_says at parts ▹ or_says at parts ▹ not_says at parts
      ▹ all_says at parts ▹ any_says at parts ▹ tt)

  -- ALL PLACES OF A TREE

  -- an atom is refused at a place of tests
  refused : (at : Standing) (bytes : List ℕ) (from to : ℕ) → at.place ≡ symbol.Test → Good sheet given at (word bytes from to) → ⊥
  refused at bytes from to here good =
      no_shape (subst (λ p. atom_faults p bytes from ≡ []) here good.shaped)
    where
      no_shape : atom_faults symbol.Test bytes from ≡ [] → ⊥
      no_shape is = cc

  -- an atom at each place
  pub words_read : (bytes : List ℕ) (from to : ℕ) → Reads (word bytes from to)
  words_read bytes from to =
      record {
        card = λ at here good. makes _ card_var
            (variable_finds sheet given at card_sort bytes
            (word_is_variable sheet given at symbol.Card bytes from to here refl good) (ap sorts_at here) good.fine.0)
            (λ var has. has);
        coll = λ at here good. coll_word_finds at bytes from to
            (word_is_variable sheet given at symbol.Collection bytes from to here refl good) (ap sorts_at here) good;
        range = λ at here good. range_word_finds at bytes from to
            (passes_test (is_word keyword.Player bytes || is_variable bytes) Shape from
            (subst (λ p. atom_faults p bytes from ≡ []) here good.shaped)) (ap sorts_at here) good;
        int = λ at here good. makes _ literal
            (integer_finds bytes (passes_test (is_number bytes) Number from
            (subst (λ p. atom_faults p bytes from ≡ []) here good.shaped))) (λ value is. is);
        side = λ at here good. side_word_finds at bytes from to here good;
        test = λ at here good. absurd (refused at bytes from to here good);
      }

  -- a list at each place, where its parts are read
  pub lists_read : Gives sheet given → (parts : Trees) (from to : ℕ) → Each Reads parts → Reads (list parts from to)
  lists_read gives parts from to each =
      record {
        card = λ at here good.
            list_says given (sheet_naming sheet) Reads (card_rule (sheet_naming sheet) at.around.scope) symbol.Card at parts from to here
            each good
            (top_says at parts ▹ bottom_says at parts ▹ max_says gives at parts ▹ min_says gives at parts ▹ tt);
        coll = λ at here good. coll_list_finds at parts from to (ap (λ p. rule_of p parts) here) each good;
        range = λ at here good. range_list_finds at parts from to here each good;
        int = λ at here good.
            list_says given (sheet_naming sheet) Reads (int_rule (sheet_naming sheet) at.around.scope) symbol.Integer at parts from to
            here each good
            (counter_says at parts ▹ size_says at parts ▹ sum_says gives at parts ▹ points_says gives at parts
            ▹ plus_says at parts ▹ minus_says at parts ▹ times_says at parts ▹ tt);
        side = λ at here good. side_list_finds gives at parts from to here each good;
        test = λ at here good. test_list_finds gives at parts from to here each good;
      }

  -- each tree is read at each place of an expression where it stands well
  pub reads : Gives sheet given → (tree : Tree) → Reads tree
  reads gives = by_parts words_read (lists_read gives)
