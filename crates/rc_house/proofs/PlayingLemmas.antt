-- How the answers of commands that have matches played come about.
use Rattle.std.proofs.Common.{◌≡◌, ◌<◌, ◌≤◌, ◌+◌, inl, inr, ℕ, List, length, map, Option, Some, None, Result, Ok, Err, IfOk, OnOk, Vec, refl, sym, subst, ap, ◌∙◌, arith}
use Rattle.std.specs.Prelude.{nat_lt, if◌then◌else◌}
use Rattle.std.proofs.lemmas.Bool.{lt-ltb}
use Rattle.std.specs.Global.{Global}
use Rattle.rc_sheet_spec.specs.Sheet.{Sheet}
use Rattle.rc_play_spec.specs.About.{About, about_of}
use Rattle.rc_play_spec.specs.House.{standings_of}
use Rattle.rc_play_spec.specs.Shape.{shape_of}
use Rattle.rc_play_spec.specs.Plan.{Plan}
use Rattle.rc_cache.specs.Hits.{hits, cost}
use Rattle.rc_trick.specs.Bench.{bench_plan, bench_text}
use Rattle.rc_series.specs.Series.{IsTold, looks_of, matches_of}
use Rattle.rc_series.specs.declared.series.Series.{Series}
use Rattle.rc_rules.specs.Plan.{plan_seen}
use Rattle.rc_rules.specs.Record.{record_seen, standing_seen}
use Rattle.rc_text.specs.House.{named_seen}
use Rattle.rc_play_spec.specs.HouseText.{NamedText as PureNamed, naming, text_in, text_of}
use Rattle.rc_play_spec.specs.Naming.{legend_of}
use Rattle.rc_play_spec.specs.PlayedLaws.{house_text_in, played_text}
use Rattle.rc_play_spec.specs.Reading.{lines_in}
use Rattle.rc_play_spec.proofs.SameTexts.{text_same}
use Rattle.rc_trick.specs.Trick.{IsTrickGame}
use Rattle.rc_house.specs.declared.options.Format.{Format}
use Rattle.rc_house.specs.declared.options.Format.TheVariants.{Plain, Named}
use Rattle.rc_house.specs.declared.options.Options.{Options}
use Rattle.rc_house.specs.Words.{is_named}
use Rattle.rc_house.specs.Command.{options_of}
use Rattle.rc_house.specs.declared.command.Command.{Command}
use Rattle.rc_house.specs.declared.command.Command.TheVariants as command
use Rattle.rc_house.specs.declared.answer.Answer.{Answer as Stored}
use Rattle.rc_house.specs.declared.answer.Answer.TheVariants.{Text, Refused}
use Rattle.rc_house.specs.declared.answer.Game.{Game}
use Rattle.rc_house.specs.declared.answer.Prepared.TheVariants.{Answered, Playing}
use Rattle.rc_house.specs.declared.note.Note.{Note}
use Rattle.rc_house.specs.declared.note.Note.TheVariants.{Looks}
use Rattle.rc_house.specs.declared.status.Status.{Status}
use Rattle.rc_house.specs.declared.status.Status.TheVariants.{Memory}
use Rattle.rc_house.specs.declared.task.Task.{Task}
use Rattle.rc_house.specs.declared.task.Task.TheVariants.{Play, Check, Sheet as PrintsSheet, Migrate, Watch, Measure, Rival}
use Rattle.rc_house.specs.Answer.{Answer, text, house_played, playouts_of, seen, IsGame}
use Rattle.rc_house.specs.Bench.{IsBenchAnswer}
use Rattle.rc_house.specs.Legend.{HasLegend}
use Rattle.rc_house.specs.BenchOutcome.{BenchOutcome, summary, no_memory as bench_no_memory}
use Rattle.rc_house.specs.Ends.{Runs}
use Rattle.rc_house.specs.Note.{looks_line, note_line}
use Rattle.rc_house.specs.Outcome.{Answers, CountedFew}
use Rattle.rc_house.specs.Players.{AreHits, alone, shared, counted_playouts}
use Rattle.rc_house.specs.Port.{Port, Ports, port, IsSteady}
use Rattle.rc_house.specs.Running.{ReadsAnswer, ReadsGame, IsSeriesOf, TellsOf, series_text, PreparesCommand, PreparesNone, AnswersBench, AnswersSource, AnswersCommand, Concludes}
use Rattle.rc_house.proofs.SourceAnswers.{counted_few}
use Rattle.rc_house.proofs.BenchLaws.{summary_is, few_steps}
use Rattle.rc_house.proofs.OutcomeLemmas.{concluded, performed}
use Rattle.rc_house.proofs.SomeAnswer.{some_hits}

-- No more steps than playouts are for the command's answer.
few_of : (options : Options) (answer : Answer) (told : Option (List ℕ)) (faults : ℕ) (after : Port) (steps steps' : ℕ)
    → Answers (port told faults) after (Play options) (λ other. other ≡ answer) → steps' ≤ steps + playouts_of answer
    → CountedFew (port told faults) (Play options) steps steps'
few_of options answer None faults after steps steps' answers few = tt
few_of options answer (Some source) faults after steps steps' answers few =
    counted_few (Play options) source answers.2 steps steps' answers.3 (subst (λ other. steps' ≤ steps + playouts_of other) (sym answers.4) few)

few_counted : (options : Options) (before after : Port) (sheet : Sheet) (plan : Plan) (steps steps' : ℕ) → ReadsGame (Play options) before after sheet plan
    → steps' ≤ steps + counted_playouts options (looks_of (about_of sheet plan.turns) plan) → CountedFew before (Play options) steps steps'
few_counted options before after sheet plan steps steps' reads few =
    let about = about_of sheet plan.turns in
    let hits = some_hits options (looks_of about plan) in
    let answer = house_played options about plan hits.0 in
    few_of options answer before.told before.faults after steps steps' (reads answer (hits.0, hits.1, refl)) few

-- the house text of a series is that of its plan, in either format
house_told : (format : Format) (sheet : Sheet) (plan : Plan) (series : Series) (legend : List ℕ) → HasLegend format sheet legend
    → IsTold (is_named format) (about_of sheet plan.turns) plan series.named
    → series_text format (lines_in legend).0 series ≡ house_text_in (is_named format) (about_of sheet plan.turns) plan
house_told Plain sheet plan series legend has told =
    ap (λ (named : PureNamed). text_of named.text) told.told ∙ text_same (played_text (about_of sheet plan.turns) plan)
house_told Named sheet plan series legend has told =
    ap (λ (lines : List (List ℕ) × List ℕ). text_in (naming lines.0) (named_seen series.named)) has
    ∙ ap (text_in (naming (legend_of sheet (shape_of sheet)))) told.told

-- what `play` tells of a series
house_answers : (options : Options) (before after : Port) (sheet : Sheet) (plan : Plan) (steps steps' : ℕ) (series : Series) (legend : List ℕ) (bytes : Vec ℕ Global) (note : Note)
    → IsSteady before after → ReadsGame (Play options) before after sheet plan → IsSeriesOf options (about_of sheet plan.turns) plan steps steps' series
    → HasLegend options.format sheet legend → bytes.items ≡ series_text options.format (lines_in legend).0 series
    → note ≡ Looks series.totals.looks series.totals.hits
    → AnswersSource (Play options) before after steps steps' (Ok (Text bytes note))
house_answers options before after sheet plan steps steps' series legend bytes note steady reads is has written noted =
    let about = about_of sheet plan.turns in
    let playouts = counted_playouts options (looks_of about plan) in
    let house = house_text_in (is_named options.format) about plan in
    let wrote : bytes.items ≡ house = written ∙ house_told options.format sheet plan series legend has is.named in
    let told : seen (Text bytes note) playouts ≡ house_played options about plan series.totals.hits =
    ap (λ bytes. text bytes (note_line note) playouts) wrote
    ∙ ap (λ note. text house (note_line note) playouts) noted
    ∙ ap (λ looks. text house (looks_line looks series.totals.hits) playouts) is.looks in
    (playouts, (reads (seen (Text bytes note) playouts) (series.totals.hits, is.hits, told), (series.totals.looks, series.totals.hits, ap note_line noted), steady), is.counted)

-- what `bench` tells of it
bench_answers : (options : Options) (number : ℕ) (sheet : Sheet) (plan : Plan) (steps steps' : ℕ) (series : Series) (bytes : Vec ℕ Global) (note : Note)
    → IsTrickGame sheet → plan ≡ bench_plan number → IsSeriesOf options (about_of sheet plan.turns) plan steps steps' series
    → bytes.items ≡ bench_text number (map record_seen series.named.text.matches.items) (map standing_seen series.named.text.standings.items)
    → note ≡ Looks series.totals.looks series.totals.hits → AnswersBench options number steps steps' (Ok (Text bytes note))
bench_answers options number sheet plan steps steps' series bytes note game planned is wrote noted =
    let records = map record_seen series.named.text.matches.items in
    let standings = map standing_seen series.named.text.standings.items in
    let playouts = counted_playouts options (looks_of (about_of sheet plan.turns) plan) in
    let benched =
    summary_is options number sheet plan records standings bytes.items series.totals.looks series.totals.hits planned is.matches is.standings is.looks is.hits wrote in
    (playouts, subst (λ note. IsBenchAnswer options number (text bytes.items (note_line note) playouts)) (sym noted) (sheet, game, benched), is.counted)

module _ (before after : Port) where
  -- what a command answers for which nobody plays: no playouts are counted for it
  unplayed : (task : Task) (steps : ℕ) (answer : Stored) → ReadsAnswer task before after 0 answer → AnswersSource task before after steps steps (Ok answer)
  unplayed task steps (Text bytes note) reads = (0, reads, omega arith)
  unplayed task steps (Refused refusal) reads = (0, reads, omega arith)

  pub answered : (called : Command) (steps : ℕ) (answer : Stored) → PreparesCommand called before after (Answered answer)
      → AnswersCommand called before after steps steps (Ok answer)
  answered (command.Play options) steps answer is = unplayed (Play options) steps answer is
  answered command.Check steps answer is = unplayed Check steps answer is
  answered command.Sheet steps answer is = unplayed PrintsSheet steps answer is
  answered command.Migrate steps answer is = unplayed Migrate steps answer is
  answered (command.Watch seat number) steps answer is = unplayed (Watch seat number) steps answer is
  answered command.Measure steps answer is = unplayed Measure steps answer is
  answered (command.Rival rival) steps answer is = unplayed (Rival rival) steps answer is
  answered (command.Bench number options) steps answer is = absurd is.1

  -- what it answers where it makes nothing of its source
  pub unprepared : (called : Command) (steps : ℕ) (status : Status) → PreparesNone called before after status
      → AnswersCommand called before after steps steps (Err status)
  unprepared (command.Play options) steps status none = inl (none, refl)
  unprepared command.Check steps status none = inl (none, refl)
  unprepared command.Sheet steps status none = inl (none, refl)
  unprepared command.Migrate steps status none = inl (none, refl)
  unprepared (command.Watch seat number) steps status none = inl (none, refl)
  unprepared command.Measure steps status none = inl (none, refl)
  unprepared (command.Rival rival) steps status none = inl (none, refl)
  unprepared (command.Bench number options) steps status none = (none.0, (none.1, λ answer benched. omega arith))

  -- what it has played is the game of a sheet and a plan
  pub game_prepared : (called : Command) (game : Game) → PreparesCommand called before after (Playing game)
      → IsGame game.checked (plan_seen game.plan)
  game_prepared (command.Play options) game prepared = prepared.0
  game_prepared command.Check game prepared = prepared.0
  game_prepared command.Sheet game prepared = prepared.0
  game_prepared command.Migrate game prepared = prepared.0
  game_prepared (command.Watch seat number) game prepared = prepared.0
  game_prepared command.Measure game prepared = prepared.0
  game_prepared (command.Rival rival) game prepared = prepared.0
  game_prepared (command.Bench number options) game prepared = let made = prepared.1 in made.0

  -- what it tells of the matches that were played for it
  pub told : (called : Command) (game : Game) (steps steps' : ℕ) (series : Series) (legend : List ℕ) (answer : Stored)
      → PreparesCommand called before after (Playing game)
      → IsSeriesOf (options_of called) (about_of game.checked game.plan.turns) (plan_seen game.plan) steps steps' series
      → HasLegend (options_of called).format game.checked legend → TellsOf called (lines_in legend).0 series answer
      → AnswersCommand called before after steps steps' (Ok answer)
  told called game steps steps' series legend (Refused refusal) prepared is has tells = absurd tells
  told (command.Play options) game steps steps' series legend (Text bytes note) prepared is has tells =
      house_answers options before after game.checked (plan_seen game.plan) steps steps' series legend bytes note prepared.3 prepared.1 is has tells.0 tells.1
  told command.Check game steps steps' series legend (Text bytes note) prepared is has tells = absurd prepared.1
  told command.Sheet game steps steps' series legend (Text bytes note) prepared is has tells = absurd prepared.1
  told command.Migrate game steps steps' series legend (Text bytes note) prepared is has tells = absurd prepared.1
  told (command.Watch seat number) game steps steps' series legend (Text bytes note) prepared is has tells = absurd prepared.1
  told command.Measure game steps steps' series legend (Text bytes note) prepared is has tells = absurd prepared.1
  told (command.Rival rival) game steps steps' series legend (Text bytes note) prepared is has tells = absurd prepared.1
  told (command.Bench number options) game steps steps' series legend (Text bytes note) prepared is has tells =
      let made = prepared.1 in
      (prepared.0, bench_answers options number game.checked (plan_seen game.plan) steps steps' series bytes note made.1 made.3 is tells.0 tells.1)

  -- there was no memory to play, or for what is told
  pub lacking : (called : Command) (game : Game) (steps steps' : ℕ) (status : Status) → PreparesCommand called before after (Playing game)
      → steps' ≤ steps + counted_playouts (options_of called) (looks_of (about_of game.checked game.plan.turns) (plan_seen game.plan))
      → status ≡ Memory → AnswersCommand called before after steps steps' (Err status)
  lacking (command.Play options) game steps steps' status prepared few is =
      inr (is, prepared.2, few_counted options before after game.checked (plan_seen game.plan) steps steps' prepared.1 few, prepared.3)
  lacking command.Check game steps steps' status prepared few is = absurd prepared.1
  lacking command.Sheet game steps steps' status prepared few is = absurd prepared.1
  lacking command.Migrate game steps steps' status prepared few is = absurd prepared.1
  lacking (command.Watch seat number) game steps steps' status prepared few is = absurd prepared.1
  lacking command.Measure game steps steps' status prepared few is = absurd prepared.1
  lacking (command.Rival rival) game steps steps' status prepared few is = absurd prepared.1
  lacking (command.Bench number options) game steps steps' status prepared few is =
      let made = prepared.1 in
      (prepared.0, (is, λ answer benched. few_steps options number game.checked (plan_seen game.plan) steps steps' answer made.3 made.2 benched few))

  pub lacking_text : (called : Command) (game : Game) (steps steps' : ℕ) (series : Series) (status : Status) → PreparesCommand called before after (Playing game)
      → IsSeriesOf (options_of called) (about_of game.checked game.plan.turns) (plan_seen game.plan) steps steps' series
      → status ≡ Memory → AnswersCommand called before after steps steps' (Err status)
  lacking_text called game steps steps' series status prepared is lacks =
      let counted = is.counted in lacking called game steps steps' status prepared (omega (arith, counted)) lacks

-- options of so many workers, with a book of so many totals
abbrev pub options_with : ℕ → ℕ → Format → Options
options_with workers cache format = record { workers = workers; cache = cache; format = format }

-- the options are those of one worker
pub are_of_one : (options told : Options) → options ≡ told → told.workers ≡ 1 → options_with 1 options.cache options.format ≡ told
are_of_one options told same one =
    let own : options.workers ≡ 1 = ap (λ (options : Options). options.workers) same ∙ one in
    ap (λ workers. options_with workers options.cache options.format) (sym own) ∙ same

-- what one worker plays is a series by the options of one
played_alone : (options told : Options) (about : About) (plan : Plan) (steps steps' : ℕ) (series : Series) → options ≡ told → told.workers ≡ 1
    → map record_seen series.named.text.matches.items ≡ matches_of about plan
    → map standing_seen series.named.text.standings.items ≡ standings_of plan (matches_of about plan)
    → IsTold (is_named options.format) about plan series.named
    → (series.totals.capacity ≡ options.cache) × (series.totals.lanes ≡ 1)
    → series.totals.looks ≡ length (looks_of about plan)
    → series.totals.hits ≡ hits (looks_of about plan) options.cache
    → steps' ≡ steps + cost (looks_of about plan) options.cache
    → IsSeriesOf told about plan steps steps' series
played_alone options told about plan steps steps' series same one matches standings named book looks found counted =
    let by_one : IsSeriesOf (options_with 1 options.cache options.format) about plan steps steps' series =
    record {
      matches = matches;
      standings = standings;
      named = named;
      book = book;
      looks = looks;
      hits = alone (omega arith) found;
      counted = counted;
    } in
    subst (λ options. IsSeriesOf options about plan steps steps' series) (are_of_one options told same one) by_one

pub played_by_one : (options told : Options) (about : About) (plan : Plan) (steps steps' : ℕ) {E : Type 0} (result : Result Series E) → options ≡ told → told.workers ≡ 1
    → IfOk result (λ series. map record_seen series.named.text.matches.items ≡ matches_of about plan)
    → IfOk result (λ series. map standing_seen series.named.text.standings.items ≡ standings_of plan (matches_of about plan))
    → IfOk result (λ series. IsTold (is_named options.format) about plan series.named)
    → IfOk result (λ series. (series.totals.capacity ≡ options.cache) × (series.totals.lanes ≡ 1))
    → IfOk result (λ series. series.totals.looks ≡ length (looks_of about plan))
    → IfOk result (λ series. series.totals.hits ≡ hits (looks_of about plan) options.cache)
    → OnOk result (steps' ≡ steps + cost (looks_of about plan) options.cache)
    → IfOk result (IsSeriesOf told about plan steps steps')
played_by_one options told about plan steps steps' (Err fail) same one matches standings named book looks found counted = tt
played_by_one options told about plan steps steps' (Ok series) same one matches standings named book looks found counted =
    played_alone options told about plan steps steps' series same one matches standings named book looks found counted

-- of what several workers play no playout is counted
several_count : (workers missed : ℕ) → 1 < workers → 0 ≡ 0 + (if nat_lt 1 workers then 0 else missed)
several_count workers missed several = ap (λ more. 0 + (if more then 0 else missed)) (sym (lt-ltb 1 workers several))

-- of their looks not all hit
several_hits : (options : Options) (about : About) (plan : Plan) (series : Series) → 1 < options.workers
    → series.totals.looks ≡ length (looks_of about plan) → series.totals.hits ≤ series.totals.looks → (0 < series.totals.looks → series.totals.hits < series.totals.looks)
    → AreHits options (looks_of about plan) series.totals.hits
several_hits options about plan series several looked found missed =
    shared several (subst (λ looks. series.totals.hits ≤ looks) looked found)
    (subst (λ looks. 0 < looks → series.totals.hits < looks) looked missed)

-- what they play is a series by their options
pub played_together : (options : Options) (about : About) (plan : Plan) {E : Type 0} (result : Result Series E) → 1 < options.workers
    → IfOk result (λ series. map record_seen series.named.text.matches.items ≡ matches_of about plan)
    → IfOk result (λ series. map standing_seen series.named.text.standings.items ≡ standings_of plan (matches_of about plan))
    → IfOk result (λ series. IsTold (is_named options.format) about plan series.named)
    → IfOk result (λ series. (series.totals.capacity ≡ options.cache) × (series.totals.lanes ≡ options.workers))
    → IfOk result (λ series. series.totals.looks ≡ length (looks_of about plan))
    → IfOk result (λ series. series.totals.hits ≤ series.totals.looks)
    → IfOk result (λ series. 0 < series.totals.looks → series.totals.hits < series.totals.looks)
    → IfOk result (IsSeriesOf options about plan 0 0)
played_together options about plan (Err fail) several matches standings named book looks found missed = tt
played_together options about plan (Ok series) several matches standings named book looks found missed =
    record {
      matches = matches;
      standings = standings;
      named = named;
      book = book;
      looks = looks;
      hits = several_hits options about plan series several looks found missed;
      counted = several_count options.workers _ several;
    }

-- what was done with the answer of the bench
bench_concluded : (options : Options) (number : ℕ) (before after : Ports) (steps steps' : ℕ) (answered : Result Stored Status) (status : Status)
    → AnswersBench options number steps steps' answered → Concludes answered before.out after.out before.notes after.notes status
    → BenchOutcome options number before after steps steps' status
bench_concluded options number before after steps steps' (Ok (Text bytes note)) status is ends =
    summary bytes.items (note_line note) is.0 is.1 is.2 ends
bench_concluded options number before after steps steps' (Ok (Refused refusal)) status is ends = absurd is
bench_concluded options number before after steps steps' (Err why) status is ends =
    bench_no_memory (ends.0 ∙ is.0) (record { untouched = ends.1; noted = ends.2 }) is.1

-- a command was run
pub runs_so : (called : Command) (before after : Ports) (steps steps' : ℕ) (answered : Result Stored Status) (status : Status)
    → AnswersCommand called before.source after.source steps steps' answered
    → Concludes answered before.out after.out before.notes after.notes status → Runs called before after steps steps' status
runs_so (command.Play options) before after steps steps' answered status is ends =
    performed (Play options) before after steps steps' status (concluded (Play options) before after steps steps' answered status is ends)
runs_so command.Check before after steps steps' answered status is ends =
    performed Check before after steps steps' status (concluded Check before after steps steps' answered status is ends)
runs_so command.Sheet before after steps steps' answered status is ends =
    performed PrintsSheet before after steps steps' status (concluded PrintsSheet before after steps steps' answered status is ends)
runs_so command.Migrate before after steps steps' answered status is ends =
    performed Migrate before after steps steps' status (concluded Migrate before after steps steps' answered status is ends)
runs_so (command.Watch seat number) before after steps steps' answered status is ends =
    performed (Watch seat number) before after steps steps' status
    (concluded (Watch seat number) before after steps steps' answered status is ends)
runs_so command.Measure before after steps steps' answered status is ends =
    performed Measure before after steps steps' status (concluded Measure before after steps steps' answered status is ends)
runs_so (command.Rival rival) before after steps steps' answered status is ends =
    performed (Rival rival) before after steps steps' status
    (concluded (Rival rival) before after steps steps' answered status is ends)
runs_so (command.Bench number options) before after steps steps' answered status is ends =
    (is.0, bench_concluded options number before after steps steps' answered status is.1 ends)
