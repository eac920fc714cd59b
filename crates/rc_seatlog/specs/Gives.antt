-- How reading a log ends.
use Rattle.std.specs.Prelude.{◌≡◌, ℕ, List, Result, Ok, Err}
use Rattle.rc_play_spec.specs.Shape.{Shape}
use Rattle.rc_play_spec.specs.View.{View}
use Rattle.rc_log_spec.specs.Log.{LogText as PureText, log_text}
use Rattle.rc_log_spec.specs.Laws.{AllCount}
use Rattle.rc_seatlog.specs.Seen.{log_seen}
use Rattle.rc_seatlog.specs.declared.told.LogText.{LogText}
use Rattle.rc_seatlog.specs.declared.reading.LogFail.{LogFail}
use Rattle.rc_seatlog.specs.declared.reading.LogFail.TheVariants.{Fault, Memory}

-- what holds of a fault's line; nothing is said where memory ran out
abbrev pub IfLogFault : LogFail → (ℕ → Type 0) → Type 0
IfLogFault (Fault line) P = P line
IfLogFault Memory P = Unit {0}

-- It ends with this log, or with a fault at this line, unless memory ran out.
abbrev pub Gives : Result LogText LogFail → Result PureText ℕ → Type 0
Gives (Ok text) told = told ≡ Ok (log_seen text)
Gives (Err fail) told = IfLogFault fail (λ line. told ≡ Err line)

-- a log is that of some views of its seat that may stand in a log
abbrev pub IsOfViews : Shape → PureText → Type 0
IsOfViews shape t = (views : List View) × AllCount shape t.seat views × (log_text t.seat t.number views ≡ t)
