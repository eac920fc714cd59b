-- What the private parts of `run` and `run_alone` do, from the source to the ports. No contract of another crate cites
-- it: Ends.antt says what comes of it.
use Rattle.std.specs.Prelude.{◌≡◌, ◌≤◌, ◌⊎◌, ℕ, ◌+◌, Bool, List, Result, Ok, Err, length, map}
use Rattle.rc_play_spec.specs.About.{About, about_of}
use Rattle.rc_play_spec.specs.House.{standings_of}
use Rattle.rc_play_spec.specs.Plan.{Plan}
use Rattle.rc_series.specs.Series.{IsTold, looks_of, matches_of}
use Rattle.rc_series.specs.declared.series.Series.{Series}
use Rattle.rc_rules.specs.Plan.{plan_seen}
use Rattle.rc_rules.specs.Record.{record_seen, standing_seen}
use Rattle.rc_trick.specs.Bench.{bench_plan, bench_text}
use Rattle.rc_sheet_spec.specs.Sheet.{Sheet}
use Rattle.rc_text.specs.House.{text_of, named_seen}
use Rattle.rc_play_spec.specs.HouseText.{naming, text_in}
use Rattle.rc_trick.specs.Trick.{IsTrickGame}
use Rattle.rc_house.specs.Command.{IsCommand, options_of, workers_of}
use Rattle.rc_house.specs.declared.command.Command.{Command}
use Rattle.rc_house.specs.declared.command.Command.TheVariants as command
use Rattle.rc_house.specs.declared.options.Format.{Format}
use Rattle.rc_house.specs.declared.options.Format.TheVariants.{Plain, Named}
use Rattle.rc_house.specs.declared.options.Options.{Options}
use Rattle.rc_house.specs.Words.{is_named}
use Rattle.rc_house.specs.declared.task.Task.{Task}
use Rattle.rc_house.specs.declared.task.Task.TheVariants.{Play, Check, Sheet as PrintsSheet, Migrate, Watch}
use Rattle.rc_house.specs.declared.task.Task.TheVariants.{Measure, Rival}
use Rattle.rc_house.specs.declared.answer.Answer.{Answer as Stored}
use Rattle.rc_house.specs.declared.answer.Game.{Game}
use Rattle.rc_house.specs.declared.answer.Answer.TheVariants as stored
use Rattle.rc_house.specs.declared.answer.Prepared.{Prepared}
use Rattle.rc_house.specs.declared.answer.Prepared.TheVariants.{Answered, Playing}
use Rattle.rc_house.specs.declared.status.Status.{Status}
use Rattle.rc_house.specs.declared.status.Status.TheVariants as ending
use Rattle.rc_house.specs.Task.{IsNoteOf}
use Rattle.rc_house.specs.declared.note.Note.TheVariants.{Looks}
use Rattle.rc_house.specs.Note.{note_line}
use Rattle.rc_house.specs.Players.{AreHits, CanPlay, counted_playouts}
use Rattle.rc_house.specs.Answer.{Answer, seen, playouts_of, IsGame, IsPlayed}
use Rattle.rc_house.specs.Bench.{IsBenchAnswer}
use Rattle.rc_house.specs.Port.{Port, HasFailed, IsSteady, Delivers, Took}
use Rattle.rc_house.specs.Status.{line_of, refusal_status}
use Rattle.rc_house.specs.Outcome.{Answers, CountedFew, GaveFew, GaveTooMuch}

-- it is the command of some words
abbrev pub HasWords : Command → Type 0
HasWords command = (words : List (List ℕ)) × IsCommand words command

-- a text's note is one of the command's
abbrev pub HasNoteOf : Task → Stored → Type 0
HasNoteOf task (stored.Text bytes note) = IsNoteOf task (note_line note)
HasNoteOf task (stored.Refused refusal) = Unit {0}

-- the source was read, and this is the command's answer to it, where it takes so many playouts
abbrev pub ReadsAnswer : Task → Port → Port → ℕ → Stored → Type 0
ReadsAnswer task before after playouts answer =
    Answers before after task (λ other. other ≡ seen answer playouts) × HasNoteOf task answer × IsSteady before after

-- the source was read, and what is played of this sheet and plan is the command's answer to it
abbrev pub ReadsGame : Task → Port → Port → Sheet → Plan → Type 0
ReadsGame (Play options) before after sheet plan =
    (answer : Answer) → IsPlayed options (about_of sheet plan.turns) plan answer
    → Answers before after (Play options) (λ other. other ≡ answer)
ReadsGame Check before after sheet plan = ⊥
ReadsGame PrintsSheet before after sheet plan = ⊥
ReadsGame Migrate before after sheet plan = ⊥
ReadsGame (Watch seat number) before after sheet plan = ⊥
ReadsGame Measure before after sheet plan = ⊥
ReadsGame (Rival rival) before after sheet plan = ⊥

abbrev pub ReadsPrepared : Task → Port → Port → Prepared → Type 0
ReadsPrepared task before after (Answered answer) = ReadsAnswer task before after 0 answer
ReadsPrepared task before after (Playing game) =
    IsGame game.checked (plan_seen game.plan) × ReadsGame task before after game.checked (plan_seen game.plan)
    × GaveFew task before after × IsSteady before after

-- Why the command makes nothing of its source: a read failed, the source gave too much, or there was no memory. Only in
-- the first case one failed.
abbrev pub ReadsNone : Task → Port → Port → Status → Type 0
ReadsNone task before after status =
    ((status ≡ ending.ReadFault) × HasFailed before after × GaveFew task before after)
    ⊎ ((status ≡ ending.TooLong) × GaveTooMuch task before after × IsSteady before after)
    ⊎ ((status ≡ ending.Memory) × GaveFew task before after × IsSteady before after)

-- The matches of a sheet and a plan were played as the options say, and so many playouts were counted for them.
pub record IsSeriesOf (options : Options) (about : About) (plan : Plan) (steps steps' : ℕ) (series : Series)
    : Type 0 where
  pub matches : map record_seen series.named.text.matches.items ≡ matches_of about plan
  pub standings : map standing_seen series.named.text.standings.items ≡ standings_of plan (matches_of about plan)
  pub named : IsTold (is_named options.format) about plan series.named
  pub book : (series.totals.capacity ≡ options.cache) × (series.totals.lanes ≡ options.workers)
  pub looks : series.totals.looks ≡ length (looks_of about plan)
  pub hits : AreHits options (looks_of about plan) series.totals.hits
  pub counted : steps' ≡ steps + counted_playouts options (looks_of about plan)

-- The matches of a game were played for a command.
abbrev pub IsSeriesFor : Command → Game → ℕ → ℕ → Series → Type 0
IsSeriesFor called game = IsSeriesOf (options_of called) (about_of game.checked game.plan.turns) (plan_seen game.plan)

-- how many playouts are counted for them
abbrev pub counted_for : Command → Game → ℕ
counted_for called game =
    counted_playouts (options_of called) (looks_of (about_of game.checked game.plan.turns) (plan_seen game.plan))

-- The matches of some sheet and plan were played so.
abbrev pub ArePlayedBy : Options → Series → Type 0
ArePlayedBy options series =
    (about : About) × (plan : Plan) × (steps : ℕ) × (steps' : ℕ) × IsSeriesOf options about plan steps steps' series

-- The house text of a series in a format, which has a legend of these lines if it tells what items bind.
abbrev pub series_text : Format → List (List ℕ) → Series → List ℕ
series_text Plain legend series = text_of series.named.text
series_text Named legend series = text_in (naming legend) (named_seen series.named)

-- What a command tells of the matches of a series: their house text, or the summary of the bench.
abbrev pub told_of : Command → List (List ℕ) → Series → List ℕ
told_of (command.Play options) legend series = series_text options.format legend series
told_of command.Check legend series = text_of series.named.text
told_of command.Sheet legend series = text_of series.named.text
told_of (command.Bench number options) legend series =
    bench_text number (map record_seen series.named.text.matches.items)
    (map standing_seen series.named.text.standings.items)
told_of command.Migrate legend series = text_of series.named.text
told_of (command.Watch seat number) legend series = text_of series.named.text
told_of command.Measure legend series = text_of series.named.text
told_of (command.Rival rival) legend series = text_of series.named.text

-- and with it how their looks went
abbrev pub TellsOf : Command → List (List ℕ) → Series → Stored → Type 0
TellsOf called legend series (stored.Text bytes note) =
    (bytes.items ≡ told_of called legend series) × (note ≡ Looks series.totals.looks series.totals.hits)
TellsOf called legend series (stored.Refused refusal) = ⊥

-- This is the command's answer to its source, and as many steps were counted as it takes playouts; or this is why there
-- is none.
abbrev pub AnswersSource : Task → Port → Port → ℕ → ℕ → Result Stored Status → Type 0
AnswersSource task before after steps steps' (Ok answer) =
    (playouts : ℕ) × ReadsAnswer task before after playouts answer
    × (steps' ≡ steps + playouts_of (seen answer playouts))
AnswersSource task before after steps steps' (Err status) =
    (ReadsNone task before after status × (steps' ≡ steps))
    ⊎ ((status ≡ ending.Memory) × GaveFew task before after × CountedFew before task steps steps'
    × IsSteady before after)

-- What `bench` makes before anybody plays: its game.
abbrev pub PreparesBench : ℕ → Prepared → Type 0
PreparesBench number (Answered answer) = ⊥
PreparesBench number (Playing game) =
    IsGame game.checked (plan_seen game.plan) × IsTrickGame game.checked
    × ((other : Sheet) → IsTrickGame other → other ≡ game.checked)
    × (plan_seen game.plan ≡ bench_plan number)

-- What a command makes of its source before anybody plays, and why it makes nothing of it.
abbrev pub PreparesCommand : Command → Port → Port → Prepared → Type 0
PreparesCommand (command.Play options) before after prepared = ReadsPrepared (Play options) before after prepared
PreparesCommand command.Check before after prepared = ReadsPrepared Check before after prepared
PreparesCommand command.Sheet before after prepared = ReadsPrepared PrintsSheet before after prepared
PreparesCommand command.Migrate before after prepared = ReadsPrepared Migrate before after prepared
PreparesCommand (command.Watch seat number) before after prepared =
    ReadsPrepared (Watch seat number) before after prepared
PreparesCommand command.Measure before after prepared = ReadsPrepared Measure before after prepared
PreparesCommand (command.Rival rival) before after prepared = ReadsPrepared (Rival rival) before after prepared
PreparesCommand (command.Bench number options) before after prepared = (after ≡ before) × PreparesBench number prepared

abbrev pub PreparesNone : Command → Port → Port → Status → Type 0
PreparesNone (command.Play options) before after status = ReadsNone (Play options) before after status
PreparesNone command.Check before after status = ReadsNone Check before after status
PreparesNone command.Sheet before after status = ReadsNone PrintsSheet before after status
PreparesNone command.Migrate before after status = ReadsNone Migrate before after status
PreparesNone (command.Watch seat number) before after status = ReadsNone (Watch seat number) before after status
PreparesNone command.Measure before after status = ReadsNone Measure before after status
PreparesNone (command.Rival rival) before after status = ReadsNone (Rival rival) before after status
PreparesNone (command.Bench number options) before after status = (after ≡ before) × (status ≡ ending.Memory)

-- This is what `bench` answers with so many matches, and as many steps were counted as it takes playouts; or there was
-- no memory.
abbrev pub AnswersBench : Options → ℕ → ℕ → ℕ → Result Stored Status → Type 0
AnswersBench options number steps steps' (Ok (stored.Text bytes note)) =
    (playouts : ℕ) × IsBenchAnswer options number (seen (stored.Text bytes note) playouts) × (steps' ≡ steps + playouts)
AnswersBench options number steps steps' (Ok (stored.Refused refusal)) = ⊥
AnswersBench options number steps steps' (Err status) =
    (status ≡ ending.Memory)
    × ((answer : Answer) → IsBenchAnswer options number answer → steps' ≤ steps + playouts_of answer)

-- This is what a command answers; or this is why there is no answer.
abbrev pub AnswersCommand : Command → Port → Port → ℕ → ℕ → Result Stored Status → Type 0
AnswersCommand (command.Play options) before after steps steps' answered =
    AnswersSource (Play options) before after steps steps' answered
AnswersCommand command.Check before after steps steps' answered = AnswersSource Check before after steps steps' answered
AnswersCommand command.Sheet before after steps steps' answered =
    AnswersSource PrintsSheet before after steps steps' answered
AnswersCommand command.Migrate before after steps steps' answered =
    AnswersSource Migrate before after steps steps' answered
AnswersCommand (command.Watch seat number) before after steps steps' answered =
    AnswersSource (Watch seat number) before after steps steps' answered
AnswersCommand command.Measure before after steps steps' answered =
    AnswersSource Measure before after steps steps' answered
AnswersCommand (command.Rival rival) before after steps steps' answered =
    AnswersSource (Rival rival) before after steps steps' answered
AnswersCommand (command.Bench number options) before after steps steps' answered =
    (after ≡ before) × AnswersBench options number steps steps' answered

-- Why words name no command here: they are none's, or those of one with more workers than can play, or there was no
-- memory to read them.
pub data NamesNone (many : Bool) (words : List (List ℕ)) (status : Status) : Type 0 where
  no_command : ((command : Command) → IsCommand words command → ⊥) → status ≡ ending.Usage → NamesNone many words status
  too_many : (command : Command) → IsCommand words command → (CanPlay many (workers_of command) → ⊥)
      → status ≡ ending.Usage
      → NamesNone many words status
  unread : status ≡ ending.Memory → NamesNone many words status

-- The text of an answer was handed on with its note; or the refusal, or why there is no answer, was noted.
abbrev pub Concludes : Result Stored Status → Port → Port → Port → Port → Status → Type 0
Concludes (Ok (stored.Text bytes note)) out out' notes notes' status =
    Delivers bytes.items (note_line note) out out' notes notes' status
Concludes (Ok (stored.Refused refusal)) out out' notes notes' status =
    (status ≡ refusal_status refusal) × (out' ≡ out) × Took notes notes' (line_of status)
Concludes (Err why) out out' notes notes' status = (status ≡ why) × (out' ≡ out) × Took notes notes' (line_of status)
