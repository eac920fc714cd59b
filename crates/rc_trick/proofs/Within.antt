-- The plan of the bench is within the limits of plans.
use Rattle.std.proofs.Common.{◌<◌, ◌≤◌, ℕ, [], ◌∷◌, sym, subst, arith}
use Rattle.std.specs.List.{All}
use Rattle.std.proofs.lemmas.List.Elements.{All-nil, All-cons}
use Rattle.std.proofs.lemmas.List.FromFn.{length-map-range_with_len, get_or-map-range_with_len}
use Rattle.rc_play_spec.specs.Plan.{Deal, random, rollout}
use Rattle.rc_play_spec.specs.Limits.{IsWithinLimits, IsStrategyWithin, IsDealWithin}
use Rattle.rc_play_spec.specs.PlanStands.{later, counted_from}
use Rattle.rc_trick.specs.Bench.{bench_plan}

deals_within : (n : ℕ) → n ≤ 1000 → All IsDealWithin (counted_from (record { deal = n; seats = 1000 }) n)
deals_within n few k d lt =
    let first : Deal = record { deal = n; seats = 1000 } in
    let long = length-map-range_with_len (later first) 0 n in
    let below : k < n = omega (arith, lt, long) in
    let is = get_or-map-range_with_len (later first) 0 n k k d below (omega arith) in
    subst IsDealWithin (sym is) (omega (arith, below, few), omega (arith, below, few))

strategies_within : All IsStrategyWithin (random 1 ∷ rollout 4 2 ∷ random 3 ∷ rollout 4 4 ∷ [])
strategies_within =
    All-cons IsStrategyWithin (random 1) (rollout 4 2 ∷ random 3 ∷ rollout 4 4 ∷ []) (omega arith)
    (All-cons IsStrategyWithin (rollout 4 2) (random 3 ∷ rollout 4 4 ∷ []) ((omega arith, omega arith), omega arith)
    (All-cons IsStrategyWithin (random 3) (rollout 4 4 ∷ []) (omega arith)
    (All-cons IsStrategyWithin (rollout 4 4) [] ((omega arith, omega arith), omega arith) (All-nil IsStrategyWithin))))

pub bench_within : (n : ℕ) → 1 ≤ n → n ≤ 1000 → IsWithinLimits (bench_plan n)
bench_within n some few =
    let first : Deal = record { deal = n; seats = 1000 } in
    let long = length-map-range_with_len (later first) 0 n in
    record {
      seats = (omega arith, omega arith);
      strategies = strategies_within;
      count = (omega (arith, long, some), omega (arith, long, few));
      deals = deals_within n few;
      turn_limit = (omega arith, omega arith);
      size = omega (arith, long, few);
    }
