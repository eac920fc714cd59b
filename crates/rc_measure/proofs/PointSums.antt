-- Points of seats and of the strategies that they had, and the strategies with the most.
use Rattle.std.proofs.Common.{◌≡◌, ℕ, zero, suc, ◌+◌, ◌<◌, ◌≤◌, nat_le, Bool, true, cond, List, [], ◌∷◌, length, map, get_or, sum_by, refl, sym, ap, ◌∙◌, arith}
use Rattle.std.specs.List.{AllByRecursion, list_all, range_with_len}
use Rattle.std.proofs.lemmas.Bool.{and_from, cond-true, le-leb}
use Rattle.std.proofs.lemmas.List.FromFn.{get_or-range_with_len, get_or-map-range_with_len, length-range_with_len, length-map-range_with_len}
use Rattle.std.proofs.lemmas.List.Sums.{sum_by-cons, get_or-le-sum_by}
use Rattle.rc_base.specs.Numbers.{below}
use Rattle.rc_base.specs.Transcript.{Record}
use Rattle.rc_play_spec.specs.Plan.{Plan, strategy_held}
use Rattle.rc_play_spec.specs.House.{points_at, points_in}
use Rattle.rc_measure.specs.Leads.{leader, is_best_in}
use Rattle.rc_measure.specs.Measures.{seat_points, strategy_points, strategy_best}
use Rattle.rc_measure.proofs.Leading.{leader_leads}
use Rattle.rc_measure.proofs.Sums.{sum_same, class_weights, rows_and_columns}

-- ---- the strategies' points are the seats'

held_from : (plan : Plan) (m from count : ℕ) → count ≤ length plan.strategies →
    AllByRecursion (λ seat. strategy_held plan m seat < length plan.strategies) (range_with_len from count)
held_from plan m from zero le = tt
held_from plan m from (suc count) le = (omega (arith, le), held_from plan m (from + 1) count (omega (arith, le)))

points_in_match : (plan : Plan) (r : Record) →
    sum_by (λ strategy. points_in plan strategy r) (below (length plan.strategies)) ≡ sum_by (points_at r) (below (length plan.strategies))
points_in_match plan r =
    let n = length plan.strategies in
    class_weights (strategy_held plan r.number) (points_at r) n (below n) (held_from plan r.number 0 n (omega arith))

pub strategies_have_points : (plan : Plan) (records : List Record) →
    sum_by (strategy_points plan records) (below (length plan.strategies)) ≡ sum_by (seat_points records) (below (length plan.strategies))
strategies_have_points plan records =
    let all = below (length plan.strategies) in
    rows_and_columns (λ strategy r. points_in plan strategy r) all records
    ∙ sum_same (λ r. sum_by (λ strategy. points_in plan strategy r) all) (λ r. sum_by (points_at r) all) records (points_in_match plan)
    ∙ sym (rows_and_columns (λ seat r. points_at r seat) all records)

-- ---- some strategy has the most

all_from : (p : ℕ → Bool) (from count : ℕ) → ((k : ℕ) → k < from + count → p k ≡ true) → list_all p (range_with_len from count) ≡ true
all_from p from zero all = refl
all_from p from (suc count) all =
    and_from (p from) (list_all p (range_with_len (from + 1) count)) (all from (omega arith)) (all_from p (from + 1) count (λ k less. all k (omega (arith, less))))

pub some_best : (plan : Plan) (r : Record) → 0 < length plan.strategies →
    (strategy : ℕ) × (strategy < length plan.strategies) × (is_best_in plan strategy r ≡ true)
some_best plan r some =
    let n = length plan.strategies in
    let value = λ (k : ℕ). points_in plan k r in
    let points = map value (below n) in
    let long : length points ≡ n = length-map-range_with_len value 0 n in
    let best = leader points in
    let lead = leader_leads points (omega (arith, some, long)) in
    let within : best < n = omega (arith, lead.there, long) in
    let at : (k : ℕ) → k < n → get_or points k 0 ≡ value k = λ k less. get_or-map-range_with_len value 0 n k k 0 less (omega arith) in
    let none_more = λ (k : ℕ) (less : k < n). le-leb (value k) (value best) (omega (arith, lead.most k (omega (arith, less, long)), at k less, at best within)) in
    (best, within, all_from (λ k. nat_le (value k) (value best)) 0 n (λ k less. none_more k (omega (arith, less))))

best_in_match : (plan : Plan) (r : Record) → 0 < length plan.strategies →
    1 ≤ sum_by (λ strategy. cond (is_best_in plan strategy r) 1 0) (below (length plan.strategies))
best_in_match plan r some =
    let n = length plan.strategies in
    let best = some_best plan r some in
    let one : ℕ → ℕ = λ strategy. cond (is_best_in plan strategy r) 1 0 in
    let here : get_or (below n) best.0 0 ≡ best.0 = omega (arith, get_or-range_with_len 0 n best.0 0 best.1) in
    let at : one (get_or (below n) best.0 0) ≡ 1 = ap one here ∙ cond-true {A = ℕ} (is_best_in plan best.0 r) 1 0 best.2 in
    omega (arith, at, get_or-le-sum_by one (below n) best.0 0 (omega (arith, best.1, length-range_with_len 0 n)))

at_least_one : {X : Type 0} (f : X → ℕ) (xs : List X) → ((x : X) → 1 ≤ f x) → length xs ≤ sum_by f xs
at_least_one f [] one = omega arith
at_least_one f (x ∷ xs) one = omega (arith, one x, at_least_one f xs one, sum_by-cons f x xs)

pub best_add_up : (plan : Plan) (records : List Record) → 0 < length plan.strategies →
    length records ≤ sum_by (strategy_best plan records) (below (length plan.strategies))
best_add_up plan records some =
    let all = below (length plan.strategies) in
    let best : ℕ → Record → ℕ = λ strategy r. cond (is_best_in plan strategy r) 1 0 in
    omega (arith, at_least_one (λ r. sum_by (λ strategy. best strategy r) all) records (λ r. best_in_match plan r some), rows_and_columns best all records)
