-- What the parts of a list say, by how many there are and what they are, and what a list of each form makes of its parts: the
-- readings of expressions and tests again, cut as the readers are. The two are one (`proofs/Forms.antt`).
use Rattle.std.specs.Prelude.{ℕ, if◌then◌else◌, Option, Some, None, option_map}
use Rattle.rc_base.specs.Tree.{Tree, Trees, nil, cons}
use Rattle.rc_sheet_spec.specs.Sheet.{Sort, player_sort, card_sort, Loc, CardExpr, top_card, bottom_card, max_card, min_card, CollExpr, cards_in, filtered, union_of, known_in, CollExprs, IntExpr, number, size_of, sum_of, worth_of, add, subtract, multiply, Test, ne, less, less_eq, more, more_eq, has_value, and_of, or_of, not_of, all_of, any_of, Tests, Domain}
use Rattle.rc_sheet_spec.specs.Naming.{Naming, Scope, bind}
use Rattle.rc_sheet.specs.ReadNames.{◌>>=◌, both, name_at, binder_at, owner_rule, loc_at, loc_parts, num_parts, map_at}
use Rattle.rc_sheet.specs.ReadExpressions.{Side, side_by, equal_test, card_at, coll_at, colls_at, int_at, side_at, test_at, tests_at, range_at}
use Rattle.rc_check.specs.Faults.{is_form_word}
use Rattle.rc_check.specs.declared.keyword.Keyword.TheVariants as keyword
use Rattle.rc_check.specs.declared.grammar.Rule.{Rule}
use Rattle.rc_check.specs.declared.grammar.Rule.TheVariants as rule

-- cards behind a head, alone and before a point map
abbrev pub one_coll : Naming → Scope → Trees → Option CollExpr
one_coll naming scope (cons head (cons cards nil)) = coll_at naming scope cards
one_coll naming scope parts = None

abbrev pub coll_and_map : Naming → Scope → Trees → Option (CollExpr × ℕ)
coll_and_map naming scope (cons head (cons cards (cons using (cons map nil)))) =
    both (coll_at naming scope cards) (map_at naming using map)
coll_and_map naming scope parts = None

-- a card behind a head, before a point map and before an attribute
abbrev pub card_and_map : Naming → Scope → Trees → Option (CardExpr × ℕ)
card_and_map naming scope (cons head (cons card (cons using (cons map nil)))) =
    both (card_at naming scope card) (map_at naming using map)
card_and_map naming scope parts = None

abbrev pub card_and_attr : Naming → Scope → Trees → Option (CardExpr × ℕ)
card_and_attr naming scope (cons head (cons card (cons attr nil))) =
    both (card_at naming scope card) (name_at naming.names.attrs attr)
card_and_attr naming scope parts = None

-- a location behind a head
abbrev pub one_loc : Naming → Scope → Trees → Option Loc
one_loc naming scope (cons head (cons loc nil)) = loc_at naming scope loc
one_loc naming scope parts = None

-- two numbers behind a head
abbrev pub two_ints : Naming → Scope → Trees → Option (IntExpr × IntExpr)
two_ints naming scope (cons head (cons a (cons b nil))) = both (int_at naming scope a) (int_at naming scope b)
two_ints naming scope parts = None

-- the lists of cards behind a head, and the tests
abbrev pub colls_behind : Naming → Scope → Trees → Option CollExprs
colls_behind naming scope (cons head parts) = colls_at naming scope parts
colls_behind naming scope nil = None

abbrev pub tests_behind : Naming → Scope → Trees → Option Tests
tests_behind naming scope (cons head parts) = tests_at naming scope parts
tests_behind naming scope nil = None

-- a variable of this sort, and a test that it is bound in
abbrev pub bound_test : Naming → Scope → Tree → Sort → Tree → Option (ℕ × Test)
bound_test naming scope variable sort t =
    binder_at naming.names.vars scope variable >>= λ bound. both (Some bound)
    (test_at naming (bind naming scope bound sort) t)

-- `(filter COLL VARIABLE BOOL)`
abbrev pub filter_parts : Naming → Scope → Trees → Option CollExpr
filter_parts naming scope (cons head (cons cards (cons variable (cons t nil)))) =
    option_map (λ p. filtered p.0 p.1.0 p.1.1)
    (both (coll_at naming scope cards) (bound_test naming scope variable card_sort t))
filter_parts naming scope parts = None

-- the equality of the two sides behind a head
abbrev pub equality : Naming → Scope → Trees → Option Test
equality naming scope (cons head (cons a (cons b nil))) =
    both (side_at naming scope a) (side_at naming scope b) >>= λ p. equal_test p.0 p.1
equality naming scope parts = None

-- an attribute and a value
abbrev pub face_at : Naming → Tree → Tree → Option (ℕ × ℕ)
face_at naming attr value = both (name_at naming.names.attrs attr) (name_at naming.names.values value)

-- `(is CARD ATTR VALUE)`
abbrev pub is_parts : Naming → Scope → Trees → Option Test
is_parts naming scope (cons head (cons card (cons attr (cons value nil)))) =
    option_map (λ p. has_value p.0 p.1.0 p.1.1) (both (card_at naming scope card) (face_at naming attr value))
is_parts naming scope parts = None

-- one test behind a head
abbrev pub one_test : Naming → Scope → Trees → Option Test
one_test naming scope (cons head (cons t nil)) = test_at naming scope t
one_test naming scope parts = None

-- what a variable stands for that runs over the players, or over cards
abbrev pub range_sort : Tree → Sort
range_sort range = if is_form_word keyword.Player range then player_sort else card_sort

-- what a variable runs over, the variable, and a test that it is bound in
abbrev pub quantified : Naming → Scope → Trees → Option (Domain × (ℕ × Test))
quantified naming scope (cons head (cons range (cons variable (cons t nil)))) =
    both (range_at naming scope range) (bound_test naming scope variable (range_sort range) t)
quantified naming scope parts = None

-- a list of each form
abbrev pub card_form : Naming → Scope → Rule → Trees → Option CardExpr
card_form naming scope rule.TopCard parts = option_map top_card (one_coll naming scope parts)
card_form naming scope rule.BottomCard parts = option_map bottom_card (one_coll naming scope parts)
card_form naming scope rule.MaxCard parts = option_map (λ p. max_card p.0 p.1) (coll_and_map naming scope parts)
card_form naming scope rule.MinCard parts = option_map (λ p. min_card p.0 p.1) (coll_and_map naming scope parts)
card_form naming scope rule parts = None

abbrev pub coll_form : Naming → Scope → ℕ → Rule → Trees → Option CollExpr
coll_form naming scope from rule.Location parts = option_map cards_in (loc_parts naming scope from parts)
coll_form naming scope from rule.Filter parts = filter_parts naming scope parts
coll_form naming scope from rule.Union parts = option_map union_of (colls_behind naming scope parts)
coll_form naming scope from rule.Known parts = option_map known_in (one_loc naming scope parts)
coll_form naming scope from rule parts = None

abbrev pub int_form : Naming → Scope → Rule → Trees → Option IntExpr
int_form naming scope rule.Counter parts = option_map number (num_parts naming scope parts)
int_form naming scope rule.Size parts = option_map size_of (one_coll naming scope parts)
int_form naming scope rule.Sum parts = option_map (λ p. sum_of p.0 p.1) (coll_and_map naming scope parts)
int_form naming scope rule.PointsOf parts = option_map (λ p. worth_of p.0 p.1) (card_and_map naming scope parts)
int_form naming scope rule.Plus parts = option_map (λ p. add p.0 p.1) (two_ints naming scope parts)
int_form naming scope rule.Minus parts = option_map (λ p. subtract p.0 p.1) (two_ints naming scope parts)
int_form naming scope rule.Times parts = option_map (λ p. multiply p.0 p.1) (two_ints naming scope parts)
int_form naming scope rule parts = None

abbrev pub side_form : Naming → Scope → Rule → Trees → Option Side
side_form naming scope rule parts =
    side_by rule (int_form naming scope rule parts) (card_form naming scope rule parts)
    (card_and_attr naming scope parts)
    (owner_rule scope rule parts)

-- which of two numbers is less
abbrev pub order_test : Rule → IntExpr → IntExpr → Option Test
order_test rule.Less a b = Some (less a b)
order_test rule.LessOrEqual a b = Some (less_eq a b)
order_test rule.More a b = Some (more a b)
order_test rule.MoreOrEqual a b = Some (more_eq a b)
order_test rule a b = None

abbrev pub test_form : Naming → Scope → Rule → Trees → Option Test
test_form naming scope rule.Equal parts = equality naming scope parts
test_form naming scope rule.NotEqual parts = option_map ne (equality naming scope parts)
test_form naming scope rule.Less parts = option_map (λ p. less p.0 p.1) (two_ints naming scope parts)
test_form naming scope rule.LessOrEqual parts = option_map (λ p. less_eq p.0 p.1) (two_ints naming scope parts)
test_form naming scope rule.More parts = option_map (λ p. more p.0 p.1) (two_ints naming scope parts)
test_form naming scope rule.MoreOrEqual parts = option_map (λ p. more_eq p.0 p.1) (two_ints naming scope parts)
test_form naming scope rule.Is parts = is_parts naming scope parts
test_form naming scope rule.And parts = option_map and_of (tests_behind naming scope parts)
test_form naming scope rule.Or parts = option_map or_of (tests_behind naming scope parts)
test_form naming scope rule.Not parts = option_map not_of (one_test naming scope parts)
test_form naming scope rule.ForAll parts = option_map (λ q. all_of q.0 q.1.0 q.1.1) (quantified naming scope parts)
test_form naming scope rule.ForAny parts = option_map (λ q. any_of q.0 q.1.0 q.1.1) (quantified naming scope parts)
test_form naming scope rule parts = None
