-- What is noted of what the choices of a match bind, where that is asked for.
use Rattle.std.specs.Prelude.{◌≡◌, ℕ, Bool, true, false, List, [], ◌∷◌, Option, Some, None}
use Rattle.rc_base.specs.Transcript.{Pick}
use Rattle.rc_play_spec.specs.About.{About}
use Rattle.rc_play_spec.specs.ItemBounds.{Bound}
use Rattle.rc_play_spec.specs.Keyed.{dealing_of}
use Rattle.rc_play_spec.specs.Plan.{Plan}
use Rattle.rc_play_spec.specs.Step.{Config}
use Rattle.rc_play_spec.specs.Along.{marks_from}
use Rattle.rc_play_spec.specs.Judged.{play_after}
use Rattle.rc_rules.specs.Bounds.{match_bounds}
use Rattle.rc_rules.specs.Machine.{bounds_here}
use Rattle.rc_rules.specs.Record.{record_seen}
use Rattle.rc_match.specs.declared.playing.Played.{Played}

-- of one choice at a decision, and nothing at an end
abbrev pub noted_here : (named : Bool) → About → Config → Option ℕ → List (List Bound)
noted_here true about c (Some item) = bounds_here about item c ∷ []
noted_here true about c None = []
noted_here false about c pick = []

-- of these choices of match m of a plan
abbrev pub noted_in : (named : Bool) → About → Plan → ℕ → List Pick → List (List Bound)
noted_in true about plan m picks = marks_from about dealing_of plan m (play_after about dealing_of plan m []) picks
noted_in false about plan m picks = []

-- a match was played with notes of all its choices, or without notes
abbrev pub IsNoted : (named : Bool) → About → Plan → ℕ → Played → Type 0
IsNoted named about plan m p = match_bounds p.bounds ≡ noted_in named about plan m (record_seen p.record).picks
