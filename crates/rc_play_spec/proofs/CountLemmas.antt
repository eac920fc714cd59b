-- Counts of decisions where one more is counted.
use Rattle.std.proofs.Common.{ℕ, ◌+◌, ◌≤◌, List, [], ◌∷◌, arith, All, slice_set, slice_index, zero, suc}
use Rattle.std.specs.List.{AllByRecursion}
use Rattle.std.proofs.lemmas.List.Elements.{All-from_recursion, recursion_from_All}

-- counts of decisions where one turn more is counted
pub one_turn_more : (turn : ℕ) (made : List ℕ) → AllByRecursion (λ n. n ≤ turn) made →
    AllByRecursion (λ n. n ≤ turn + 1) made
one_turn_more turn [] all = tt
one_turn_more turn (n ∷ made) all = let le = all.0 in (omega (arith, le), one_turn_more turn made all.1)

pub one_turn_counts : (turn : ℕ) (made : List ℕ) → All (λ n. n ≤ turn) made → All (λ n. n ≤ turn + 1) made
one_turn_counts turn made all =
    All-from_recursion (λ n. n ≤ turn + 1) made (one_turn_more turn made (recursion_from_All (λ n. n ≤ turn) made all))

-- and where one decision more is counted besides
pub one_more_of : (turn seat : ℕ) (made : List ℕ) → AllByRecursion (λ n. n ≤ turn) made →
    AllByRecursion (λ n. n ≤ turn + 1) (slice_set made seat (slice_index made seat + 1))
one_more_of turn seat [] all = tt
one_more_of turn zero (n ∷ made) all = let le = all.0 in (omega (arith, le), one_turn_more turn made all.1)
one_more_of turn (suc seat) (n ∷ made) all = let le = all.0 in (omega (arith, le), one_more_of turn seat made all.1)

pub one_decision_counts : (turn seat : ℕ) (made : List ℕ) → All (λ n. n ≤ turn) made →
    All (λ n. n ≤ turn + 1) (slice_set made seat (slice_index made seat + 1))
one_decision_counts turn seat made all =
    All-from_recursion (λ n. n ≤ turn + 1) _ (one_more_of turn seat made (recursion_from_All (λ n. n ≤ turn) made all))
