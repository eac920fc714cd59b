-- The readings of lists, by their forms, as the readers take them apart.
use Rattle.std.proofs.Common.{◌≡◌, ℕ, Bool, true, false, Option, Some, None, refl, ap, ◌∙◌}
use Rattle.std.specs.Prelude.{if◌then◌else◌, option_map}
use Rattle.rc_base.specs.Tree.{Trees, nil, cons}
use Rattle.rc_sheet_spec.specs.Sheet.{Sort, player_sort, card_sort, CardExpr, CollExpr, filtered, Domain, each_player, each_card, has_value, all_of, any_of}
use Rattle.rc_sheet_spec.specs.Naming.{Naming, Scope, bind, sort_of}
use Rattle.rc_sheet.specs.ReadNames.{◌>>=◌, both, name_at, binder_at, owner_rule}
use Rattle.rc_sheet.specs.ReadExpressions.{Side, side_by, card_at, card_rule, coll_at, coll_rule, int_rule, value_parts, test_at, test_rule}
use Rattle.rc_sheet.specs.ReadParts.{card_and_attr, card_form, coll_form, int_form, side_form, test_form}
use Rattle.rc_check.specs.Faults.{is_form_word}
use Rattle.rc_check.specs.declared.keyword.Keyword.TheVariants as keyword
use Rattle.rc_check.specs.declared.grammar.Rule.{Rule}
use Rattle.rc_check.specs.declared.grammar.Rule.TheVariants as rule

-- a card's list
pub card_forms : (naming : Naming) (scope : Scope) (rule : Rule) (parts : Trees)
    → card_rule naming scope rule parts ≡ card_form naming scope rule parts
card_forms naming scope rule.TopCard (cons head (cons cards nil)) = refl
card_forms naming scope rule.BottomCard (cons head (cons cards nil)) = refl
card_forms naming scope rule.MaxCard (cons head (cons cards (cons using (cons map nil)))) = refl
card_forms naming scope rule.MinCard (cons head (cons cards (cons using (cons map nil)))) = refl
card_forms naming scope rule parts = refl

-- a reading, and two behind it of which the last goes by the other, and what is made of them
bound_last : {A C D : Type 0} (make : A → ℕ → C → D) (a : A) (b : ℕ) (last : Option C)
    → option_map (make a b) last ≡ option_map (λ (p : A × (ℕ × C)). make p.0 p.1.0 p.1.1) (both (Some a) (both (Some b) last))
bound_last make a b (Some c) = refl
bound_last make a b None = refl

one_then : {A C D : Type 0} (make : A → ℕ → C → D) (first : Option A) (second : Option ℕ) (last : ℕ → Option C)
    → (first >>= λ a. second >>= λ b. option_map (make a b) (last b))
    ≡ option_map (λ (p : A × (ℕ × C)). make p.0 p.1.0 p.1.1) (both first (second >>= λ b. both (Some b) (last b)))
one_then make None second last = refl
one_then make (Some a) None last = refl
one_then make (Some a) (Some b) last = bound_last make a b (last b)

-- what a variable over the players stands for, and over cards, is known before the cards are read
over : {C : Type 0} (players : Bool) (cards : Option CollExpr) (binder : Option ℕ) (last : Sort → ℕ → Option C)
    (make : Domain → ℕ → C → C)
    → ((if players then Some each_player else option_map each_card cards) >>= λ domain.
    binder >>= λ bound. option_map (make domain bound) (last (sort_of domain) bound))
    ≡ option_map (λ (q : Domain × (ℕ × C)). make q.0 q.1.0 q.1.1)
    (both (if players then Some each_player else option_map each_card cards)
    (binder >>= λ bound. both (Some bound) (last (if players then player_sort else card_sort) bound)))
over true cards binder last make = one_then make (Some each_player) binder (last player_sort)
over false None binder last make = refl
over false (Some c) binder last make = one_then make (Some (each_card c)) binder (last card_sort)

-- a card, an attribute and a value
valued : (card : Option CardExpr) (attr value : Option ℕ)
    → (card >>= λ card. attr >>= λ attr. option_map (λ value. has_value card attr value) value)
    ≡ option_map (λ (p : CardExpr × (ℕ × ℕ)). has_value p.0 p.1.0 p.1.1) (both card (both attr value))
valued None attr value = refl
valued (Some c) None value = refl
valued (Some c) (Some a) None = refl
valued (Some c) (Some a) (Some v) = refl

-- a list of cards, which begins here
pub coll_forms : (naming : Naming) (scope : Scope) (from : ℕ) (rule : Rule) (parts : Trees)
    → coll_rule naming scope from rule parts ≡ coll_form naming scope from rule parts
coll_forms naming scope from rule.Filter (cons head (cons cards (cons variable (cons t nil)))) =
    one_then filtered (coll_at naming scope cards) (binder_at naming.names.vars scope variable)
    (λ bound. test_at naming (bind naming scope bound card_sort) t)
coll_forms naming scope from rule.Union (cons head parts) = refl
coll_forms naming scope from rule.Known (cons head (cons loc nil)) = refl
coll_forms naming scope from rule parts = refl

-- a number's list
pub int_forms : (naming : Naming) (scope : Scope) (rule : Rule) (parts : Trees)
    → int_rule naming scope rule parts ≡ int_form naming scope rule parts
int_forms naming scope rule.Size (cons head (cons cards nil)) = refl
int_forms naming scope rule.Sum (cons head (cons cards (cons using (cons map nil)))) = refl
int_forms naming scope rule.PointsOf (cons head (cons card (cons using (cons map nil)))) = refl
int_forms naming scope rule.Plus (cons head (cons a (cons b nil))) = refl
int_forms naming scope rule.Minus (cons head (cons a (cons b nil))) = refl
int_forms naming scope rule.Times (cons head (cons a (cons b nil))) = refl
int_forms naming scope rule parts = refl

-- a card and an attribute
attr_forms : (naming : Naming) (scope : Scope) (parts : Trees) → value_parts naming scope parts ≡ card_and_attr naming scope parts
attr_forms naming scope (cons head (cons card (cons attr nil))) = refl
attr_forms naming scope parts = refl

-- a side's list
abbrev pub side_rule : Naming → Scope → Rule → Trees → Option Side
side_rule naming scope rule parts =
    side_by rule (int_rule naming scope rule parts) (card_rule naming scope rule parts) (value_parts naming scope parts)
    (owner_rule scope rule parts)

pub side_forms : (naming : Naming) (scope : Scope) (rule : Rule) (parts : Trees)
    → side_rule naming scope rule parts ≡ side_form naming scope rule parts
side_forms naming scope rule parts =
    let who = owner_rule scope rule parts in
    let card = card_rule naming scope rule parts in
    let pair = value_parts naming scope parts in
    ap (λ value. side_by rule value card pair who) (int_forms naming scope rule parts)
    ∙ ap (λ card. side_by rule (int_form naming scope rule parts) card pair who) (card_forms naming scope rule parts)
    ∙ ap (λ pair. side_by rule (int_form naming scope rule parts) (card_form naming scope rule parts) pair who)
    (attr_forms naming scope parts)

-- a test's list
pub test_forms : (naming : Naming) (scope : Scope) (rule : Rule) (parts : Trees)
    → test_rule naming scope rule parts ≡ test_form naming scope rule parts
test_forms naming scope rule.Equal (cons head (cons a (cons b nil))) = refl
test_forms naming scope rule.NotEqual (cons head (cons a (cons b nil))) = refl
test_forms naming scope rule.Less (cons head (cons a (cons b nil))) = refl
test_forms naming scope rule.LessOrEqual (cons head (cons a (cons b nil))) = refl
test_forms naming scope rule.More (cons head (cons a (cons b nil))) = refl
test_forms naming scope rule.MoreOrEqual (cons head (cons a (cons b nil))) = refl
test_forms naming scope rule.Is (cons head (cons card (cons attr (cons value nil)))) =
    valued (card_at naming scope card) (name_at naming.names.attrs attr) (name_at naming.names.values value)
test_forms naming scope rule.And (cons head parts) = refl
test_forms naming scope rule.Or (cons head parts) = refl
test_forms naming scope rule.Not (cons head (cons t nil)) = refl
test_forms naming scope rule.ForAll (cons head (cons range (cons variable (cons t nil)))) =
    over (is_form_word keyword.Player range) (coll_at naming scope range) (binder_at naming.names.vars scope variable)
    (λ sort bound. test_at naming (bind naming scope bound sort) t) all_of
test_forms naming scope rule.ForAny (cons head (cons range (cons variable (cons t nil)))) =
    over (is_form_word keyword.Player range) (coll_at naming scope range) (binder_at naming.names.vars scope variable)
    (λ sort bound. test_at naming (bind naming scope bound sort) t) any_of
test_forms naming scope rule parts = refl
