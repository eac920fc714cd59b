-- The statement of a law: the matches of a plan ask playouts once for each pick of a seat that has a rollout strategy.
use Rattle.std.specs.Prelude.{◌≡◌, length, sum_by}
use Rattle.rc_sheet_spec.specs.Sight.{IsInSight}
use Rattle.rc_sheet_spec.specs.WellFormed.{IsWellFormed}
use Rattle.rc_play_spec.specs.Shape.{shape_of}
use Rattle.rc_play_spec.specs.About.{About}
use Rattle.rc_play_spec.specs.Plan.{Plan}
use Rattle.rc_match.specs.AskCounts.{rollout_picks}
use Rattle.rc_series.specs.Series.{matches_of, looks_of}

abbrev pub LooksAreRolloutPicks : Type 0
LooksAreRolloutPicks =
    (about : About) (plan : Plan) → about.shape ≡ shape_of about.sheet → IsWellFormed about.sheet →
    IsInSight about.sheet →
    length (looks_of about plan) ≡ sum_by (rollout_picks plan) (matches_of about plan)
