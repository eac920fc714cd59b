-- Statements of laws: matches ask playouts once for each pick of a seat that has a rollout strategy.
use Rattle.std.specs.Prelude.{◌≡◌, ℕ, Bool, true, false, length, count_by, sum_by, flat_map, filter_map, Some}
use Rattle.rc_base.specs.Numbers.{below}
use Rattle.rc_base.specs.Transcript.{Record}
use Rattle.rc_sheet_spec.specs.Sight.{IsInSight}
use Rattle.rc_sheet_spec.specs.WellFormed.{IsWellFormed}
use Rattle.rc_play_spec.specs.Shape.{shape_of}
use Rattle.rc_play_spec.specs.About.{About}
use Rattle.rc_play_spec.specs.Plan.{Strategy, scripted, random, rollout, Plan, strategy_at}
use Rattle.rc_play_spec.specs.Keyed.{keyed_match}
use Rattle.rc_match.specs.Asks.{asks_of}

abbrev pub is_rollout : Strategy → Bool
is_rollout (scripted numbers) = false
is_rollout (random key) = false
is_rollout (rollout rounds key) = true

-- how many picks of a record are of seats that have a rollout strategy in that match
abbrev pub rollout_picks : Plan → Record → ℕ
rollout_picks plan r = count_by (λ pick. is_rollout (strategy_at plan r.number pick.seat)) r.picks

-- so often the match asks
abbrev pub EachRolloutPickAsks : Type 0
EachRolloutPickAsks =
    (about : About) (plan : Plan) (m : ℕ) (r : Record) → about.shape ≡ shape_of about.sheet → IsWellFormed about.sheet →
    IsInSight about.sheet →
    keyed_match about plan m ≡ Some r → length (asks_of about plan m) ≡ rollout_picks plan r

-- and the first matches of a plan together
abbrev pub AllRolloutPicksAsk : Type 0
AllRolloutPicksAsk =
    (about : About) (plan : Plan) (count : ℕ) → about.shape ≡ shape_of about.sheet → IsWellFormed about.sheet →
    IsInSight about.sheet →
    length (flat_map (asks_of about plan) (below count))
    ≡ sum_by (rollout_picks plan) (filter_map (keyed_match about plan) (below count))
