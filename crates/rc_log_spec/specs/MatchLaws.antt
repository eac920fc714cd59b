-- Statements of laws of the logs of matches.
use Rattle.std.specs.Prelude.{◌≡◌, ℕ, ◌<◌, ◌≤◌, length, Some, Ok}
use Rattle.rc_base.specs.Transcript.{Record}
use Rattle.rc_sheet_spec.specs.Sight.{IsInSight}
use Rattle.rc_sheet_spec.specs.WellFormed.{IsWellFormed}
use Rattle.rc_play_spec.specs.Shape.{shape_of}
use Rattle.rc_play_spec.specs.About.{About}
use Rattle.rc_play_spec.specs.Plan.{Plan}
use Rattle.rc_play_spec.specs.Keyed.{dealing_of, keyed_match}
use Rattle.rc_log_spec.specs.Log.{largest_word}
use Rattle.rc_log_spec.specs.Laws.{AllCount}
use Rattle.rc_log_spec.specs.Plays.{IsPlayOf}
use Rattle.rc_log_spec.specs.Reading.{read_log}
use Rattle.rc_log_spec.specs.Views.{views_in, views_of_match, log_of, told_of}

-- the sheet is well formed and keeps the sight rule, the shape is its own, and the turn limit has 32 bits
pub record IsWatchable (about : About) : Type 0 where
  pub shape : about.shape ≡ shape_of about.sheet
  pub well : IsWellFormed about.sheet
  pub sight : IsInSight about.sheet
  pub turns : about.turns ≤ largest_word

-- the choices of a match lead from its first stop to some stop, with the shuffles of the deal that its record tells
abbrev pub RecordsAreOfPlays : Type 0
RecordsAreOfPlays =
    (about : About) (plan : Plan) (m : ℕ) (r : Record) → IsWatchable about → keyed_match about plan m ≡ Some r →
    IsPlayOf about (dealing_of r.deal) r.picks

-- what a seat sees in a match is what it sees at the choices that the record tells
abbrev pub RecordsTellViews : Type 0
RecordsTellViews =
    (about : About) (plan : Plan) (m seat : ℕ) (r : Record) → keyed_match about plan m ≡ Some r →
    views_of_match about plan m seat ≡ views_in about (dealing_of r.deal) seat r.picks

-- there is a view for each choice
abbrev pub ChoicesHaveViews : Type 0
ChoicesHaveViews =
    (about : About) (plan : Plan) (m seat : ℕ) (r : Record) → IsWatchable about → keyed_match about plan m ≡ Some r →
    length (views_of_match about plan m seat) ≡ length r.picks

-- and each counts as a view of a log
abbrev pub MatchViewsCount : Type 0
MatchViewsCount =
    (about : About) (plan : Plan) (m seat : ℕ) → IsWatchable about →
    AllCount about.shape seat (views_of_match about plan m seat)

-- so the log of a match is read, and tells the views of that match
abbrev pub MatchLogIsRead : Type 0
MatchLogIsRead =
    (about : About) (plan : Plan) (m seat : ℕ) → IsWatchable about → seat < about.sheet.players → m ≤ largest_word →
    read_log about.shape (log_of about plan m seat) ≡ Ok (told_of about plan m seat)
