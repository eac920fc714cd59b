-- What a status shows outside the program.
use Rattle.std.specs.Prelude.{ℕ, List, [], ◌++◌, codes, decimal}
use Rattle.rc_base.specs.Transcript.{line}
use Rattle.rc_form.specs.declared.fault.FormKind.{FormKind}
use Rattle.rc_form.specs.declared.fault.FormKind.TheVariants as form
use Rattle.rc_check.specs.declared.fault.SheetKind.{SheetKind}
use Rattle.rc_check.specs.declared.fault.SheetKind.TheVariants as part
use Rattle.rc_outside.specs.declared.errors.ReadFail.{ReadFail}
use Rattle.rc_outside.specs.declared.errors.ReadFail.TheVariants as read
use Rattle.rc_play_spec.specs.declared.plan_fault.PlanKind.{PlanKind}
use Rattle.rc_play_spec.specs.declared.plan_fault.PlanKind.TheVariants as plan
use Rattle.rc_judge.specs.declared.verdict.Why.{Why}
use Rattle.rc_judge.specs.declared.verdict.Why.TheVariants as whys
use Rattle.rc_play_spec.specs.Why.{Why as PureWhy, by_match, by_shuffle, by_seat, by_menu, by_item, by_name, by_end}
use Rattle.rc_play_spec.specs.Why.{by_score, by_standing}
use Rattle.rc_house.specs.declared.refusal.Refusal.{Refusal}
use Rattle.rc_house.specs.declared.refusal.Refusal.TheVariants as refusal
use Rattle.rc_house.specs.declared.status.SourceKind.{SourceKind}
use Rattle.rc_house.specs.declared.status.SourceKind.TheVariants.{BadByte, Stray, TooDeep, AtomLong, Unclosed}
use Rattle.rc_house.specs.declared.status.SourceKind.TheVariants.{Shape, Number, Twice, Unknown, WrongKind, TooMany}
use Rattle.rc_house.specs.declared.status.SourceKind.TheVariants.{NoCards, Unseen}
use Rattle.rc_house.specs.declared.status.Status.{Status}
use Rattle.rc_house.specs.declared.status.Status.TheVariants.{Done, Sheet, Plan, Text, Illegal, Memory}
use Rattle.rc_house.specs.declared.status.Status.TheVariants.{ReadFault, WriteFault, TooLong, Usage, Absent}

-- the name of a kind
abbrev pub kind_name : SourceKind → List ℕ
kind_name BadByte = codes "BadByte"
kind_name Stray = codes "Stray"
kind_name TooDeep = codes "TooDeep"
kind_name AtomLong = codes "AtomLong"
kind_name Unclosed = codes "Unclosed"
kind_name Shape = codes "Shape"
kind_name Number = codes "Number"
kind_name Twice = codes "Twice"
kind_name Unknown = codes "Unknown"
kind_name WrongKind = codes "WrongKind"
kind_name TooMany = codes "TooMany"
kind_name NoCards = codes "NoCards"
kind_name Unseen = codes "Unseen"

-- the name of a kind of the plan's faults
abbrev pub plan_kind_name : PlanKind → List ℕ
plan_kind_name plan.Shape = codes "Shape"
plan_kind_name plan.Number = codes "Number"
plan_kind_name plan.Seats = codes "Seats"
plan_kind_name plan.Matches = codes "Matches"
plan_kind_name plan.Turns = codes "Turns"
plan_kind_name plan.TooLarge = codes "TooLarge"
plan_kind_name plan.Rest = codes "Rest"

-- why a line is illegal, by its name
abbrev pub why_name : Why → List ℕ
why_name whys.Match = codes "Match"
why_name whys.Shuffle = codes "Shuffle"
why_name whys.Seat = codes "Seat"
why_name whys.Menu = codes "Menu"
why_name whys.Item = codes "Item"
why_name whys.Named = codes "Named"
why_name whys.End = codes "End"
why_name whys.Score = codes "Score"
why_name whys.Standing = codes "Standing"

-- and by what the judge's definitions find
abbrev pub why_told : PureWhy → Why
why_told by_match = whys.Match
why_told by_shuffle = whys.Shuffle
why_told by_seat = whys.Seat
why_told by_menu = whys.Menu
why_told by_item = whys.Item
why_told by_name = whys.Named
why_told by_end = whys.End
why_told by_score = whys.Score
why_told by_standing = whys.Standing

-- the kind that a fault of forms is in a source
abbrev pub source_kind : FormKind → SourceKind
source_kind form.BadByte = BadByte
source_kind form.Stray = Stray
source_kind form.TooDeep = TooDeep
source_kind form.AtomLong = AtomLong
source_kind form.Unclosed = Unclosed

-- the kind that a fault of a sheet's parts is in a source
abbrev pub sheet_kind : SheetKind → SourceKind
sheet_kind part.Shape = Shape
sheet_kind part.Number = Number
sheet_kind part.Twice = Twice
sheet_kind part.Unknown = Unknown
sheet_kind part.WrongKind = WrongKind
sheet_kind part.TooMany = TooMany
sheet_kind part.NoCards = NoCards

-- the status of a refusal
abbrev pub refusal_status : Refusal → Status
refusal_status (refusal.Sheet kind at) = Sheet kind at
refusal_status (refusal.Plan kind at) = Plan kind at
refusal_status (refusal.Text line) = Text line
refusal_status (refusal.Illegal line why) = Illegal line why
refusal_status refusal.Absent = Absent

-- the status of a source that wasn't read to its end
abbrev pub read_status : ReadFail → Status
read_status read.ReadFault = ReadFault
read_status read.TooLong = TooLong
read_status read.Memory = Memory

-- the program's exit code
abbrev pub code_of : Status → ℕ
code_of Done = 0
code_of (Sheet kind at) = 1
code_of Usage = 2
code_of (Plan kind at) = 3
code_of (Text at) = 4
code_of (Illegal at why) = 4
code_of Memory = 5
code_of ReadFault = 6
code_of WriteFault = 7
code_of TooLong = 8
code_of Absent = 10

-- the line that goes to the notes where a command ends so; where all went well, the command says what is noted
abbrev pub line_of : Status → List ℕ
line_of Done = []
line_of (Sheet kind at) = line (codes "sheet " ++ kind_name kind ++ codes " " ++ decimal at)
line_of (Plan kind at) = line (codes "plan " ++ plan_kind_name kind ++ codes " " ++ decimal at)
line_of (Text at) = line (codes "text " ++ decimal at)
line_of (Illegal at why) = line (codes "illegal " ++ decimal at ++ codes " " ++ why_name why)
line_of Memory = line (codes "no memory")
line_of ReadFault = line (codes "read fault")
line_of WriteFault = line (codes "write fault")
line_of TooLong = line (codes "too long")
line_of Usage = line (codes "usage: cardhouse play, check, sheet, bench, migrate, watch, measure or rival")
line_of Absent = line (codes "absent")
