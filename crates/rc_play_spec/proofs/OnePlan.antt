-- A form is that of one plan at most.
use Rattle.std.proofs.Common.{◌≡◌, ℕ, false, inl, inr, List, [], ◌∷◌, refl, sym, ap, ◌∙◌}
use Rattle.std.specs.Prelude.{codes, Some as Present, None}
use Rattle.std.specs.Str.{bytes_eq}
use Rattle.std.proofs.lemmas.Bool.{false≢true}
use Rattle.std.proofs.lemmas.Slice.Eq.{bytes_eq-Decides}
use Rattle.rc_base.specs.Literal.{natural}
use Rattle.rc_base.specs.Tree.{Tree, word, list, Trees, nil, cons}
use Rattle.rc_sheet_spec.specs.Rows.{◌▸◌, End, Word}
use Rattle.rc_play_spec.specs.Plan.{scripted, random, rollout, Deal, Plan}
use Rattle.rc_play_spec.specs.PlanStands.{Number, InTurn, StandsStrategy, StandsDeal, counted_from, StandsFrom, StandMatches, StandsSeats, StandsMatches, StandsTurns, PlanStands}

-- of each form one stands at most
abbrev AtMostOne : {A : Type 0} → (A → Tree → Type 0) → Type 0
AtMostOne {A} Stands = (a b : A) (form : Tree) → Stands a form → Stands b form → a ≡ b

one_number : AtMostOne Number
one_number n m (word bytes from to) first second = let same : Present n ≡ Present m = sym first ∙ second in cc
one_number n m (list parts from to) first second = absurd first

one_list : {A : Type 0} (Stands : A → Tree → Type 0) → AtMostOne Stands → (xs ys : List A) (parts : Trees) → InTurn Stands xs parts
    → InTurn Stands ys parts → xs ≡ ys
one_list Stands one [] [] parts first second = refl
one_list Stands one [] (y ∷ ys) nil first second = absurd second
one_list Stands one [] (y ∷ ys) (cons tree parts) first second = absurd first
one_list Stands one (x ∷ xs) [] nil first second = absurd first
one_list Stands one (x ∷ xs) [] (cons tree parts) first second = absurd second
one_list Stands one (x ∷ xs) (y ∷ ys) nil first second = absurd first
one_list Stands one (x ∷ xs) (y ∷ ys) (cons tree parts) first second =
    ap (λ z. z ∷ xs) (one x y tree first.0 second.0) ∙ ap (λ zs. y ∷ zs) (one_list Stands one xs ys parts first.1 second.1)

-- no head is two words
one_head : (first second : List ℕ) (head : Tree) → bytes_eq first second ≡ false → Word (λ bytes. bytes ≡ first) head
    → Word (λ bytes. bytes ≡ second) head → ⊥
one_head first second (word bytes from to) differ is-first is-second =
    false≢true (sym differ ∙ (bytes_eq-Decides first second).1 (sym is-first ∙ is-second))
one_head first second (list parts from to) differ is-first is-second = is-first

one_key : (key other : ℕ) (parts : Trees) → (Number key ▸ End) parts → (Number other ▸ End) parts → key ≡ other
one_key key other nil first second = absurd first
one_key key other (cons tree parts) first second = one_number key other tree first.0 second.0

one_pair : (a b x y : ℕ) (parts : Trees) → (Number a ▸ Number b ▸ End) parts → (Number x ▸ Number y ▸ End) parts → (a ≡ x) × (b ≡ y)
one_pair a b x y nil first second = absurd first
one_pair a b x y (cons tree nil) first second = absurd first.1
one_pair a b x y (cons tree (cons other parts)) first second =
    (one_number a x tree first.0 second.0, one_number b y other first.1.0 second.1.0)

one_strategy : AtMostOne StandsStrategy
one_strategy (scripted ns) (scripted ms) (word bytes from to) first second = absurd first
one_strategy (scripted ns) (scripted ms) (list nil from to) first second = absurd first
one_strategy (scripted ns) (scripted ms) (list (cons head parts) from to) first second = ap scripted (one_list Number one_number ns ms parts first.1 second.1)
one_strategy (random k) (random l) (word bytes from to) first second = absurd first
one_strategy (random k) (random l) (list nil from to) first second = absurd first
one_strategy (random k) (random l) (list (cons head parts) from to) first second = ap random (one_key k l parts first.1 second.1)
one_strategy (rollout r k) (rollout s l) (word bytes from to) first second = absurd first
one_strategy (rollout r k) (rollout s l) (list nil from to) first second = absurd first
one_strategy (rollout r k) (rollout s l) (list (cons head parts) from to) first second =
    let same = one_pair r k s l parts first.1 second.1 in ap (λ r. rollout r k) same.0 ∙ ap (rollout s) same.1
one_strategy (scripted ns) (random l) (word bytes from to) first second = absurd first
one_strategy (scripted ns) (random l) (list nil from to) first second = absurd first
one_strategy (scripted ns) (random l) (list (cons head parts) from to) first second =
    absurd (one_head (codes "script") (codes "random") head refl first.0 second.0)
one_strategy (scripted ns) (rollout s l) (word bytes from to) first second = absurd first
one_strategy (scripted ns) (rollout s l) (list nil from to) first second = absurd first
one_strategy (scripted ns) (rollout s l) (list (cons head parts) from to) first second =
    absurd (one_head (codes "script") (codes "rollout") head refl first.0 second.0)
one_strategy (random k) (scripted ms) (word bytes from to) first second = absurd first
one_strategy (random k) (scripted ms) (list nil from to) first second = absurd first
one_strategy (random k) (scripted ms) (list (cons head parts) from to) first second =
    absurd (one_head (codes "random") (codes "script") head refl first.0 second.0)
one_strategy (random k) (rollout s l) (word bytes from to) first second = absurd first
one_strategy (random k) (rollout s l) (list nil from to) first second = absurd first
one_strategy (random k) (rollout s l) (list (cons head parts) from to) first second =
    absurd (one_head (codes "random") (codes "rollout") head refl first.0 second.0)
one_strategy (rollout r k) (scripted ms) (word bytes from to) first second = absurd first
one_strategy (rollout r k) (scripted ms) (list nil from to) first second = absurd first
one_strategy (rollout r k) (scripted ms) (list (cons head parts) from to) first second =
    absurd (one_head (codes "rollout") (codes "script") head refl first.0 second.0)
one_strategy (rollout r k) (random l) (word bytes from to) first second = absurd first
one_strategy (rollout r k) (random l) (list nil from to) first second = absurd first
one_strategy (rollout r k) (random l) (list (cons head parts) from to) first second =
    absurd (one_head (codes "rollout") (codes "random") head refl first.0 second.0)

one_deal : AtMostOne StandsDeal
one_deal a b (word bytes from to) first second = absurd first
one_deal a b (list parts from to) first second =
    let same = one_pair a.deal a.seats b.deal b.seats parts first second in
    ap (λ n. record { deal = n; seats = a.seats }) same.0 ∙ ap (λ n. record { deal = b.deal; seats = n }) same.1

-- `from` is no number, so its list is no match
pub no_number : (n : ℕ) (head : Tree) → Word (λ bytes. bytes ≡ codes "from") head → Number n head → ⊥
no_number n (word bytes from to) is number =
    let none : natural bytes ≡ None = ap natural is in
    let same : Present n ≡ None = sym number ∙ none in absurd cc
no_number n (list parts from to) is number = absurd is

from_is_no_deal : (matches : List Deal) (deal : Deal) (form : Tree) → StandsFrom matches form → StandsDeal deal form → ⊥
from_is_no_deal matches deal (word bytes from to) counted listed = absurd listed
from_is_no_deal matches deal (list nil from to) counted listed = absurd listed
from_is_no_deal matches deal (list (cons head parts) from to) counted listed = no_number deal.deal head counted.2.0 listed.0

apart : (listed counted : List Deal) (parts : Trees) → InTurn StandsDeal listed parts → (StandsFrom counted ▸ End) parts → ⊥
apart [] counted nil first second = second
apart [] counted (cons form parts) first second = first
apart (deal ∷ deals) counted nil first second = first
apart (deal ∷ deals) counted (cons form parts) first second = from_is_no_deal counted deal form second.0 first.0

one_from : AtMostOne StandsFrom
one_from a b (word bytes from to) first second = absurd first.2
one_from a b (list nil from to) first second = absurd first.2
one_from a b (list (cons head nil) from to) first second = absurd first.2.1
one_from a b (list (cons head (cons x nil)) from to) first second = absurd first.2.1.1
one_from a b (list (cons head (cons x (cons y nil))) from to) first second = absurd first.2.1.1.1
one_from a b (list (cons head (cons x (cons y (cons z parts)))) from to) first second =
    let deal = one_number first.0.deal second.0.deal x first.2.1.0 second.2.1.0 in
    let seats = one_number first.0.seats second.0.seats y first.2.1.1.0 second.2.1.1.0 in
    let count = one_number first.1 second.1 z first.2.1.1.1.0 second.2.1.1.1.0 in
    first.3
    ∙ ap (λ n. counted_from (record { deal = n; seats = first.0.seats }) first.1) deal
    ∙ ap (λ n. counted_from (record { deal = second.0.deal; seats = n }) first.1) seats
    ∙ ap (counted_from second.0) count
    ∙ sym second.3

one_matches : (a b : List Deal) (parts : Trees) → StandMatches a parts → StandMatches b parts → a ≡ b
one_matches a b parts (inl first) (inl second) = one_list StandsDeal one_deal a b parts first second
one_matches a b parts (inl first) (inr second) = absurd (apart a b parts first second)
one_matches a b parts (inr first) (inl second) = absurd (apart b a parts second first)
one_matches a b nil (inr first) (inr second) = absurd first
one_matches a b (cons form parts) (inr first) (inr second) = one_from a b form first.0 second.0

one_seats : AtMostOne StandsSeats
one_seats a b (word bytes from to) first second = absurd first
one_seats a b (list nil from to) first second = absurd first
one_seats a b (list (cons head parts) from to) first second = one_list StandsStrategy one_strategy a b parts first.1.1 second.1.1

all_matches : AtMostOne StandsMatches
all_matches a b (word bytes from to) first second = absurd first
all_matches a b (list nil from to) first second = absurd first
all_matches a b (list (cons head parts) from to) first second = one_matches a b parts first.1.1 second.1.1

one_limit : AtMostOne StandsTurns
one_limit a b (word bytes from to) first second = absurd first
one_limit a b (list nil from to) first second = absurd first
one_limit a b (list (cons head parts) from to) first second = one_key a b parts first.1 second.1

pub one_plan : (a b : Plan) (form : Tree) → PlanStands a form → PlanStands b form → a ≡ b
one_plan a b (word bytes from to) first second = absurd first
one_plan a b (list nil from to) first second = absurd first
one_plan a b (list (cons head nil) from to) first second = absurd first.1
one_plan a b (list (cons head (cons x nil)) from to) first second = absurd first.1.1
one_plan a b (list (cons head (cons x (cons y nil))) from to) first second = absurd first.1.1.1
one_plan a b (list (cons head (cons x (cons y (cons z parts)))) from to) first second =
    let strategies = one_seats a.strategies b.strategies x first.1.0 second.1.0 in
    let matches = all_matches a.matches b.matches y first.1.1.0 second.1.1.0 in
    let turns = one_limit a.turns b.turns z first.1.1.1.0 second.1.1.1.0 in
    ap (λ s. record { strategies = s; matches = a.matches; turns = a.turns }) strategies
    ∙ ap (λ m. record { strategies = b.strategies; matches = m; turns = a.turns }) matches
    ∙ ap (λ t. record { strategies = b.strategies; matches = b.matches; turns = t }) turns
