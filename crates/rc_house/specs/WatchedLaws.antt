-- Statements of laws of what `watch` answers.
use Rattle.std.specs.Prelude.{◌≡◌, ℕ, ◌<◌, ◌≤◌, ◌⊎◌, ◌↔◌, List, length, Ok}
use Rattle.rc_base.specs.Tree.{Tree}
use Rattle.rc_sheet_spec.specs.Sheet.{Sheet}
use Rattle.rc_play_spec.specs.About.{about_of}
use Rattle.rc_play_spec.specs.Plan.{Plan}
use Rattle.rc_play_spec.specs.Shape.{shape_of}
use Rattle.rc_log_spec.specs.Reading.{read_log}
use Rattle.rc_log_spec.specs.Views.{told_of}
use Rattle.rc_house.specs.declared.task.Task.TheVariants.{Watch}
use Rattle.rc_house.specs.declared.refusal.Refusal.TheVariants as refusal
use Rattle.rc_house.specs.AcceptedPlan.{IsPlanAccepted}
use Rattle.rc_house.specs.Reading.{Reading, IsAcceptedWith}
use Rattle.rc_house.specs.Answer.{text, refused, HasAnswer}

-- Behind this sheet the source has a plan that is accepted, with such a seat and such a match, and these bytes are read
-- as the log of what the seat saw in the match.
abbrev pub TellsViewsBehind : (seat number : ℕ) → List ℕ → ℕ → List ℕ → Sheet → List Tree → Type 0
TellsViewsBehind seat number source rest bytes sheet others =
    (plan : Plan) × IsPlanAccepted source sheet.players others rest plan
    × (seat < sheet.players) × (number < length plan.matches)
    × (read_log (shape_of sheet) bytes ≡ Ok (told_of (about_of sheet plan.turns) plan number seat))

-- the source is read as a sheet and a plan that are accepted, and these bytes tell what the seat saw in the match
abbrev pub TellsViewsOf : (seat number : ℕ) → List ℕ → List ℕ → Type 0
TellsViewsOf seat number source bytes =
    (read : Reading source 2) × IsAcceptedWith (TellsViewsBehind seat number source read.rest bytes) read.lists

-- What `watch` writes for a source is read as the log of the seat in the match.
abbrev pub WatchedIsRead : Type 0
WatchedIsRead =
    (seat number : ℕ) (source bytes note : List ℕ) (playouts : ℕ) →
    HasAnswer (Watch seat number) source (text bytes note playouts) →
    TellsViewsOf seat number source bytes

-- behind this sheet the source has a plan that is accepted, and there is no such seat or no such match
abbrev pub IsAbsentBehind : (seat number : ℕ) → List ℕ → ℕ → Sheet → List Tree → Type 0
IsAbsentBehind seat number source rest sheet others =
    (plan : Plan) × IsPlanAccepted source sheet.players others rest plan
    × ((sheet.players ≤ seat) ⊎ (length plan.matches ≤ number))

-- the source is read as a sheet and a plan that are accepted, and there is no such seat or no such match
abbrev pub IsAbsent : (seat number : ℕ) → List ℕ → Type 0
IsAbsent seat number source =
    (read : Reading source 2) × IsAcceptedWith (IsAbsentBehind seat number source read.rest) read.lists

-- Exactly then `watch` refuses the source since the seat or the match is absent.
abbrev pub AbsentExactly : Type 0
AbsentExactly =
    (seat number : ℕ) (source : List ℕ) →
    HasAnswer (Watch seat number) source (refused refusal.Absent) ↔ IsAbsent seat number source
