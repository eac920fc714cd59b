-- The limits of plans.
use Rattle.std.specs.Prelude.{ℕ, ◌*◌, ◌≤◌, length, All}
use Rattle.rc_base.specs.Limits.{largest_seed, most_rounds, most_matches, most_turns, most_turns_in_all}
use Rattle.rc_play_spec.specs.Plan.{Strategy, scripted, random, rollout, Deal, Plan}

-- the largest number of a script
abbrev pub largest_script_number : ℕ
largest_script_number = 65535

abbrev pub most_strategies : ℕ
most_strategies = 8

-- the number is one of these
abbrev pub IsBetween : ℕ → ℕ → ℕ → Type 0
IsBetween least most n = (least ≤ n) × (n ≤ most)

abbrev pub IsStrategyWithin : Strategy → Type 0
IsStrategyWithin (scripted numbers) = All (λ n. n ≤ largest_script_number) numbers
IsStrategyWithin (random key) = key ≤ largest_seed
IsStrategyWithin (rollout rounds key) = IsBetween 1 most_rounds rounds × (key ≤ largest_seed)

abbrev pub IsDealWithin : Deal → Type 0
IsDealWithin deal = (deal.deal ≤ largest_seed) × (deal.seats ≤ largest_seed)

-- the plan is within the limits
pub record IsWithinLimits (plan : Plan) : Type 0 where
  pub seats : IsBetween 1 most_strategies (length plan.strategies)
  pub strategies : All IsStrategyWithin plan.strategies
  pub count : IsBetween 1 most_matches (length plan.matches)
  pub deals : All IsDealWithin plan.matches
  pub turn_limit : IsBetween 1 most_turns plan.turns
  pub size : length plan.matches * plan.turns ≤ most_turns_in_all
