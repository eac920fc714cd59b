-- What a command answers to its source. HasAnswer is the relation that holds of each source and its answers: exactly
-- one, but that the note may tell one number of hits or another where several workers play, by SomeAnswer, OneAnswer
-- and AnswersAreAlike of AnswerLaws.antt. What an accepted sheet is answered, and with a plan, is IsAnswered.
-- IsPrepared is what the program makes of a source before anybody plays.
use Rattle.std.specs.Prelude.{◌≡◌, ◌≤◌, ℕ, Bool, true, ◌&&◌, nat_lt, if◌then◌else◌, List, [], length, drop, codes}
use Rattle.std.specs.Prelude.{Option, Some, None, is_some, Result, Ok, Err}
use Rattle.rc_base.specs.Transcript.{line}
use Rattle.rc_base.specs.Tree.{Tree}
use Rattle.rc_play_spec.specs.About.{About, about_of}
use Rattle.rc_play_spec.specs.Plan.{Plan}
use Rattle.rc_play_spec.specs.Keyed.{dealing_of}
use Rattle.rc_play_spec.specs.Fields.{behind}
use Rattle.rc_play_spec.specs.HouseText.{HouseText, NamedText, text_in}
use Rattle.rc_play_spec.specs.PlayedLaws.{format_by, house_text_in, told_in}
use Rattle.rc_play_spec.specs.Reading.{read_in}
use Rattle.rc_play_spec.specs.Why.{Illegal}
use Rattle.rc_play_spec.specs.Judged.{first_illegal}
use Rattle.rc_log_spec.specs.Views.{log_of}
use Rattle.rc_measure.specs.Measures.{measures_of}
use Rattle.rc_measure.specs.Text.{measures_text}
use Rattle.rc_series.specs.Series.{looks_of}
use Rattle.rc_play_spec.specs.Search.{Rival as Searching}
use Rattle.rc_play_spec.specs.Rivals.{rival_house_text}
use Rattle.rc_sheet_spec.specs.Sheet as sheet
use Rattle.rc_sheet_spec.specs.Printing.{printed_sheet}
use Rattle.rc_play_spec.specs.Limits.{IsWithinLimits}
use Rattle.rc_play_spec.specs.declared.plan_fault.PlanKind.{PlanKind}
use Rattle.rc_rules.specs.Plan.{plan_seen}
use Rattle.rc_plan.specs.declared.fail.PlanFail.{PlanFail}
use Rattle.rc_house.specs.declared.options.Options.{Options}
use Rattle.rc_house.specs.declared.rival.Rival.{Rival as NamedRival}
use Rattle.rc_house.specs.Words.{is_named}
use Rattle.rc_plan.specs.declared.fail.PlanFail.TheVariants as fails
use Rattle.rc_house.specs.declared.task.Task.{Task}
use Rattle.rc_house.specs.declared.task.Task.TheVariants.{Play, Check, Sheet, Migrate, Watch, Measure, Rival}
use Rattle.rc_house.specs.declared.refusal.Refusal.{Refusal}
use Rattle.rc_house.specs.declared.refusal.Refusal.TheVariants as refusal
use Rattle.rc_house.specs.declared.status.SourceKind.{SourceKind}
use Rattle.rc_house.specs.declared.answer.Answer.{Answer as Stored}
use Rattle.rc_house.specs.declared.answer.Answer.TheVariants as stored
use Rattle.rc_house.specs.declared.transcript.Judging.{Judging}
use Rattle.rc_house.specs.declared.transcript.Judging.TheVariants as judging
use Rattle.rc_house.specs.declared.answer.Prepared.{Prepared}
use Rattle.rc_house.specs.declared.answer.Prepared.TheVariants.{Answered, Playing}
use Rattle.rc_house.specs.Task.{wanted}
use Rattle.rc_house.specs.declared.note.Note.TheVariants.{Nothing}
use Rattle.rc_house.specs.Note.{looks_line, note_line}
use Rattle.rc_house.specs.Players.{AreHits, counted_playouts}
use Rattle.rc_house.specs.Status.{why_told}
use Rattle.rc_house.specs.AcceptedPlan.{HasPlanFault, HasPlanReadFault, IsPlanAccepted, IsPlanRead}
use Rattle.rc_house.specs.Reading.{Reading, HasFormFault, HasSheetFault, IsAcceptedWith}

-- a text, with what is noted behind it and how many playouts are counted for it; or a refusal
pub data Answer : Type 0 where
  text : (bytes note : List ℕ) (playouts : ℕ) → Answer
  refused : (refusal : Refusal) → Answer

-- The house text of a plan in the format that the options name: the plays of all matches in order, and the standings.
-- It is house_text_in of rc_play_spec, a definition that knows of no book and no worker, so it is the same whoever
-- plays, and whatever the book has. All other options have a part in the note and in the playouts alone: the note tells
-- how many looks there were, and that `found` of them hit.
abbrev pub house_played : Options → About → Plan → ℕ → Answer
house_played options about plan found =
    text (house_text_in (is_named options.format) about plan) (looks_line (length (looks_of about plan)) found)
    (counted_playouts options (looks_of about plan))

-- It is that answer, with a number of hits that there may be by these options.
abbrev pub IsPlayed : Options → About → Plan → Answer → Type 0
IsPlayed options about plan answer =
    (found : ℕ) × AreHits options (looks_of about plan) found × (answer ≡ house_played options about plan found)

-- A transcript that begins with this line tells what items bind.
abbrev pub tells_bounds : List ℕ → Bool
tells_bounds bytes = is_some (behind (codes "house 2\n") bytes)

-- that a transcript is legal
abbrev pub called_legal : Answer
called_legal = text (line (codes "legal")) [] 0

-- a transcript with what its items bind
abbrev pub migrated : About → Plan → HouseText → Answer
migrated about plan told = text (text_in (format_by true about) (told_in true about plan told)) [] 0

-- the measures of what a transcript tells
abbrev pub measured : Plan → HouseText → Answer
measured plan told = text (measures_text (measures_of plan told.matches)) [] 0

-- The answer to a legal transcript, of `check`, of `migrate` and of `measure`.
abbrev pub legal_answer : Judging → About → Plan → HouseText → Answer
legal_answer judging.Check about plan told = called_legal
legal_answer judging.Migrate about plan told = migrated about plan told
legal_answer judging.Measure about plan told = measured plan told

-- The answer to a transcript that is judged: its first illegal line and why, or what is answered to a legal one.
abbrev pub judged_as : (legal : Answer) → Option Illegal → Answer
judged_as legal None = legal
judged_as legal (Some illegal) = refused (refusal.Illegal illegal.line (why_told illegal.why))

-- The answer to a transcript as it is read, with what its items bind or without that: its first line outside the
-- grammar, or as it is judged. Lines are counted from the first of its head on.
abbrev pub read_answer : Judging → (named : Bool) → About → Plan → Result NamedText ℕ → Answer
read_answer asked named about plan (Err at) = refused (refusal.Text at)
read_answer asked named about plan (Ok told) =
    judged_as (legal_answer asked about plan told.text)
    (first_illegal about dealing_of plan (length (format_by named about).head) told)

-- the same of its bytes, read in one of the two formats
abbrev pub answer_in : Judging → (named : Bool) → About → Plan → List ℕ → Answer
answer_in asked named about plan bytes = read_answer asked named about plan (read_in (format_by named about) bytes)

-- The answer to a transcript, which is read in the format that its first line names.
abbrev pub transcript_answer : Judging → About → Plan → List ℕ → Answer
transcript_answer asked about plan bytes = answer_in asked (tells_bounds bytes) about plan bytes

-- The plan is accepted, and this is the answer to the transcript behind it. `check`, `migrate` and `measure` refuse the
-- same transcripts.
abbrev pub IsTranscribed : Judging → List ℕ → sheet.Sheet → List Tree → ℕ → Answer → Type 0
IsTranscribed asked source sheet others rest answer =
    (plan : Plan) × IsPlanRead sheet.players others plan
    × (answer ≡ transcript_answer asked (about_of sheet plan.turns) plan (drop rest source))

-- there is such a seat, and such a match
abbrev pub is_there : About → Plan → (seat number : ℕ) → Bool
is_there about plan seat number = nat_lt seat about.sheet.players && nat_lt number (length plan.matches)

-- What `watch` answers to a sheet and a plan: the log of the seat in the match, where there are such.
abbrev pub watched : (seat number : ℕ) → About → Plan → Answer
watched seat number about plan =
    if is_there about plan seat number then text (log_of about plan number seat) [] 0 else refused refusal.Absent

-- the search that words name, as the definitions of searches have it
abbrev pub searching : NamedRival → Searching
searching rival =
    record { strategy = rival.strategy; depth = rival.depth; rounds = rival.rounds; key = rival.key }

-- What `rival` answers to a sheet and a plan: the house text of the plan's matches in which a search plays for one of
-- its strategies, where there is such a strategy.
abbrev pub rivalled : NamedRival → About → Plan → Answer
rivalled rival about plan =
    if nat_lt rival.strategy (length plan.strategies) then text (rival_house_text about (searching rival) plan) [] 0
    else refused refusal.Absent

-- The plan is accepted, nothing follows it, and this is the answer to the sheet and the plan.
abbrev pub IsPlanAnswered : (About → Plan → Answer) → List ℕ → sheet.Sheet → List Tree → ℕ → Answer → Type 0
IsPlanAnswered answer_to source sheet others rest answer =
    (plan : Plan) × IsPlanAccepted source sheet.players others rest plan
    × (answer ≡ answer_to (about_of sheet plan.turns) plan)

-- What a command answers where the sheet is accepted, with these lists behind it and the rest that begins here, and
-- where the plan is accepted too, if the command reads one.
abbrev pub IsAnswered : Task → List ℕ → sheet.Sheet → List Tree → ℕ → Answer → Type 0
IsAnswered (Play options) source sheet others rest answer =
    (plan : Plan) × IsPlanAccepted source sheet.players others rest plan
    × IsPlayed options (about_of sheet plan.turns) plan answer
IsAnswered Check source sheet others rest answer = IsTranscribed judging.Check source sheet others rest answer
IsAnswered Sheet source sheet others rest answer = answer ≡ text (line (printed_sheet sheet)) [] 0
IsAnswered Migrate source sheet others rest answer = IsTranscribed judging.Migrate source sheet others rest answer
IsAnswered (Watch seat number) source sheet others rest answer =
    IsPlanAnswered (watched seat number) source sheet others rest answer
IsAnswered Measure source sheet others rest answer = IsTranscribed judging.Measure source sheet others rest answer
IsAnswered (Rival rival) source sheet others rest answer =
    IsPlanAnswered (rivalled rival) source sheet others rest answer

-- The plan's first fault, where the command reads a plan.
abbrev pub HasPlanRefusal : Task → List ℕ → sheet.Sheet → List Tree → ℕ → PlanKind → ℕ → Type 0
HasPlanRefusal (Play options) source sheet others rest kind at = HasPlanFault source sheet.players others rest kind at
HasPlanRefusal Check source sheet others rest kind at = HasPlanReadFault sheet.players others rest kind at
HasPlanRefusal Sheet source sheet others rest kind at = ⊥
HasPlanRefusal Migrate source sheet others rest kind at = HasPlanReadFault sheet.players others rest kind at
HasPlanRefusal (Watch seat number) source sheet others rest kind at =
    HasPlanFault source sheet.players others rest kind at
HasPlanRefusal Measure source sheet others rest kind at = HasPlanReadFault sheet.players others rest kind at
HasPlanRefusal (Rival rival) source sheet others rest kind at =
    HasPlanFault source sheet.players others rest kind at

-- The command has this answer to its source.
pub data HasAnswer (task : Task) (source : List ℕ) (answer : Answer) : Type 0 where
  -- the first fault of the source's forms
  form_faulty : (kind : SourceKind) (at : ℕ) → HasFormFault source (wanted task) kind at
      → answer ≡ refused (refusal.Sheet kind at)
      → HasAnswer task source answer
  -- the forms are read, and this is the sheet's first fault
  sheet_faulty : (read : Reading source (wanted task)) (kind : SourceKind) (at : ℕ)
      → HasSheetFault read.lists read.rest kind at
      → answer ≡ refused (refusal.Sheet kind at)
      → HasAnswer task source answer
  -- the sheet is accepted, and this is the plan's first fault
  plan_faulty : (read : Reading source (wanted task)) (kind : PlanKind) (at : ℕ)
      → IsAcceptedWith (λ sheet others. HasPlanRefusal task source sheet others read.rest kind at) read.lists
      → answer ≡ refused (refusal.Plan kind at)
      → HasAnswer task source answer
  -- all that the command reads is accepted
  accepted : (read : Reading source (wanted task))
      → IsAcceptedWith (λ sheet others. IsAnswered task source sheet others read.rest answer) read.lists
      → HasAnswer task source answer

-- how many playouts are counted for an answer
abbrev pub playouts_of : Answer → ℕ
playouts_of (text bytes note playouts) = playouts
playouts_of (refused refusal) = 0

-- two answers that differ in their notes alone
abbrev pub AreAlike : Answer → Answer → Type 0
AreAlike (text bytes note playouts) (text bytes' note' playouts') = (bytes ≡ bytes') × (playouts ≡ playouts')
AreAlike (refused refusal) (refused refusal') = refusal ≡ refusal'
AreAlike (text bytes note playouts) (refused refusal) = ⊥
AreAlike (refused refusal) (text bytes note playouts) = ⊥

-- a command that one worker runs, and so of one answer to a source
abbrev pub IsAlone : Task → Type 0
IsAlone (Play options) = options.workers ≤ 1
IsAlone Check = Unit {0}
IsAlone Sheet = Unit {0}
IsAlone Migrate = Unit {0}
IsAlone (Watch seat number) = Unit {0}
IsAlone Measure = Unit {0}
IsAlone (Rival rival) = Unit {0}

-- the answer that a value of the program stands for, where it took so many playouts
abbrev pub seen : Stored → ℕ → Answer
seen (stored.Text bytes note) playouts = text bytes.items (note_line note) playouts
seen (stored.Refused refusal) playouts = refused refusal

-- The command's answer to its source, for which nobody plays.
abbrev pub IsAnswerTo : Task → List ℕ → Stored → Type 0
IsAnswerTo task source answer = HasAnswer task source (seen answer 0)

-- A sheet, and a plan for its players that is within the limits.
pub record IsGame (sheet : sheet.Sheet) (plan : Plan) : Type 0 where
  pub within : IsWithinLimits plan
  pub seats : length plan.strategies ≡ sheet.players

-- What is played of this sheet and plan is the command's answer to its source.
abbrev pub IsGameOf : Task → List ℕ → sheet.Sheet → Plan → Type 0
IsGameOf (Play options) source sheet plan =
    (answer : Answer) → IsPlayed options (about_of sheet plan.turns) plan answer
    → HasAnswer (Play options) source answer
IsGameOf Check source sheet plan = ⊥
IsGameOf Sheet source sheet plan = ⊥
IsGameOf Migrate source sheet plan = ⊥
IsGameOf (Watch seat number) source sheet plan = ⊥
IsGameOf Measure source sheet plan = ⊥
IsGameOf (Rival rival) source sheet plan = ⊥

-- What a command makes of its source before anybody plays: its answer, or the sheet and the plan that are to be played.
abbrev pub IsPrepared : Task → List ℕ → Prepared → Type 0
IsPrepared task source (Answered answer) = IsAnswerTo task source answer
IsPrepared task source (Playing game) =
    IsGame game.checked (plan_seen game.plan) × IsGameOf task source game.checked (plan_seen game.plan)

-- the text of a sheet as it is printed, behind which nothing is noted
abbrev pub IsSheetText : sheet.Sheet → Stored → Type 0
IsSheetText sheet (stored.Text bytes note) = (bytes.items ≡ line (printed_sheet sheet)) × (note ≡ Nothing)
IsSheetText sheet (stored.Refused refusal) = ⊥

-- The answer to a transcript that a value of the program stands for, which takes no playouts: as it is read, by its
-- bytes, and by its bytes in the format that they begin with.
abbrev pub IsReadAnswer : Judging → (named : Bool) → About → Plan → Result NamedText ℕ → Stored → Type 0
IsReadAnswer asked named about plan told answer = seen answer 0 ≡ read_answer asked named about plan told

abbrev pub IsAnswerIn : Judging → (named : Bool) → About → Plan → List ℕ → Stored → Type 0
IsAnswerIn asked named about plan bytes answer =
    IsReadAnswer asked named about plan (read_in (format_by named about) bytes) answer

abbrev pub IsJudged : Judging → About → Plan → List ℕ → Stored → Type 0
IsJudged asked about plan bytes answer = IsAnswerIn asked (tells_bounds bytes) about plan bytes answer

-- the command that judges transcripts so
abbrev pub task_of : Judging → Task
task_of judging.Check = Check
task_of judging.Migrate = Migrate
task_of judging.Measure = Measure

-- the refusal where the plan fails so: its first fault, and none where memory ran out
abbrev pub IsPlanRefusal : PlanFail → Stored → Type 0
IsPlanRefusal fails.Memory answer = ⊥
IsPlanRefusal (fails.Fault fault) answer = answer ≡ stored.Refused (refusal.Plan fault.kind fault.at)
