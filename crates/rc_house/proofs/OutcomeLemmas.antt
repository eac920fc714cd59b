-- How the outcome of a command follows from what its parts did.
use Rattle.std.proofs.Common.{◌≡◌, ◌≢◌, ◌<◌, ◌≤◌, ◌+◌, ◌⊎◌, ◌↔◌, ℕ, List, [], ◌++◌, length, length-append, Option, Some, None, IfSome, Result, Ok, Err, inl, inr, refl, sym, ◌∙◌, ap, subst, arith}
use Rattle.std.proofs.lemmas.Bool.{cases_lt}
use Rattle.std.proofs.lemmas.List.{append-nil}
use Rattle.rc_sheet_spec.specs.Sheet.{Sheet}
use Rattle.rc_play_spec.specs.Plan.{Plan}
use Rattle.rc_house.specs.Words.{is_named}
use Rattle.rc_rules.specs.Plan.{plan_seen}
use Rattle.rc_outside.specs.Source.{Gave, IsAtEnd, longest_read}
use Rattle.rc_outside.specs.declared.errors.ReadFail.{ReadFail}
use Rattle.rc_outside.specs.declared.errors.ReadFail.TheVariants as fails
use Rattle.rc_house.specs.declared.task.Task.{Task}
use Rattle.rc_house.specs.declared.task.Task.TheVariants as named
use Rattle.rc_house.specs.declared.task.Task.TheVariants.{Play}
use Rattle.rc_house.specs.declared.refusal.Refusal.{Refusal}
use Rattle.rc_house.specs.declared.refusal.Refusal.TheVariants as refusals
use Rattle.rc_house.specs.declared.status.Status.{Status}
use Rattle.rc_house.specs.declared.status.Status.TheVariants.{Done, Memory, TooLong}
use Rattle.rc_house.specs.declared.answer.Answer.{Answer as Stored}
use Rattle.rc_house.specs.declared.answer.Answer.TheVariants.{Text, Refused}
use Rattle.rc_house.specs.declared.answer.Prepared.{Prepared}
use Rattle.rc_house.specs.declared.answer.Prepared.TheVariants.{Answered, Playing}
use Rattle.rc_house.specs.Task.{IsNoteOf, limit_of}
use Rattle.rc_house.specs.Note.{note_line}
use Rattle.rc_house.specs.Answer.{Answer, text, refused, seen, AreAlike, HasAnswer, IsGameOf, IsPrepared}
use Rattle.rc_house.specs.Status.{refusal_status, read_status}
use Rattle.rc_house.specs.Port.{Port, Ports, port, HasFailed, IsSteady, Supplied, Received, Delivers}
use Rattle.rc_house.specs.Outcome.{GaveTooMuch, Answers, IsTextWith, CountedFew, Refuses, Outcome, written, refusing, no_memory, read_failed, too_long, text_failed, note_failed, NoPortFailed, Succeeds, status_of}
use Rattle.rc_house.specs.Ends.{WritesPlays, Performs}
use Rattle.rc_house.specs.Plays.{TellsPlaysOf}
use Rattle.rc_house.specs.Running.{HasNoteOf, ReadsGame, ReadsNone, ReadsPrepared, AnswersSource, Concludes}
use Rattle.rc_house.proofs.Notes.{note_of_text}
use Rattle.rc_house.proofs.OneAnswer.{alike_answers}
use Rattle.rc_house.proofs.PlaysLaw.{written_played}

-- what a source gave to its end is all that it told
gave_all : (whole rest bytes : List ℕ) (after : Option (List ℕ)) → after ≡ Some rest → whole ≡ bytes ++ rest → IsAtEnd after → (bytes ≡ whole) × (after ≡ Some [])
gave_all whole rest bytes None some given end = (cc, cc)
gave_all whole rest bytes (Some left) some given end =
    let none : rest ≡ [] = cc in
    let all : bytes ++ [] ≡ bytes = append-nil bytes in
    (cc, cc)

-- the answer to the bytes that a source gave to its end is the answer to what it told
pub answers_given : (told after : Option (List ℕ)) (faults faults' : ℕ) (task : Task) (bytes : List ℕ) (answer : Answer)
    → Gave told after bytes → IsAtEnd after → length bytes ≤ limit_of task → HasAnswer task bytes answer
    → Answers (port told faults) (port after faults') task (λ other. other ≡ answer)
answers_given None after faults faults' task bytes answer given end few is = tt
answers_given (Some whole) after faults faults' task bytes answer given end few is =
    let all = gave_all whole given.0 bytes after given.1 given.2 end in
    (subst (λ source. length source ≤ limit_of task) all.0 few, all.1, answer, subst (λ source. HasAnswer task source answer) all.0 is, refl)

-- what holds of the answer holds where the source is answered so
answers_with : (before after : Port) (task : Task) (answer : Answer) (P : Answer → Type 0)
    → Answers before after task (λ other. other ≡ answer) → P answer → Answers before after task P
answers_with before after task answer P answers here = by before.told answers
  where
    by : (told : Option (List ℕ)) → Answers (port told before.faults) after task (λ other. other ≡ answer)
        → Answers (port told before.faults) after task P
    by None answers = tt
    by (Some source) answers = (answers.0, answers.1, answers.2, answers.3, subst P (sym answers.4) here)

-- the note of an answer is one of the command's
note_answered : (task : Task) (source : List ℕ) (answer : Stored) (playouts : ℕ) → HasAnswer task source (seen answer playouts) → HasNoteOf task answer
note_answered task source (Text bytes note) playouts has = note_of_text task source bytes.items (note_line note) playouts has
note_answered task source (Refused refusal) playouts has = tt

-- what is played for a source whose bytes were given to its end
reads_game : (told after : Option (List ℕ)) (faults faults' : ℕ) (task : Task) (bytes : List ℕ) (sheet : Sheet) (plan : Plan)
    → Gave told after bytes → IsAtEnd after → length bytes ≤ limit_of task → IsGameOf task bytes sheet plan
    → ReadsGame task (port told faults) (port after faults') sheet plan
reads_game told after faults faults' (Play options) bytes sheet plan given end few is = λ answer played.
    answers_given told after faults faults' (Play options) bytes answer given end few (is answer played)
reads_game told after faults faults' named.Check bytes sheet plan given end few is = is
reads_game told after faults faults' named.Sheet bytes sheet plan given end few is = is
reads_game told after faults faults' named.Migrate bytes sheet plan given end few is = is
reads_game told after faults faults' (named.Watch seat number) bytes sheet plan given end few is = is
reads_game told after faults faults' named.Measure bytes sheet plan given end few is = is
reads_game told after faults faults' (named.Rival rival) bytes sheet plan given end few is = is

-- what a command makes of the bytes that a source gave to its end
pub reads_prepared : (told after : Option (List ℕ)) (faults faults' : ℕ) (task : Task) (bytes : List ℕ) (prepared : Prepared)
    → Gave told after bytes → IsAtEnd after → length bytes ≤ limit_of task → faults' ≡ faults → IsPrepared task bytes prepared
    → ReadsPrepared task (port told faults) (port after faults') prepared
reads_prepared told after faults faults' task bytes (Answered answer) given end few steady is =
    (answers_given told after faults faults' task bytes (seen answer 0) given end few is, note_answered task bytes answer 0 is, steady)
reads_prepared told after faults faults' task bytes (Playing game) given end few steady is =
    (is.0, reads_game told after faults faults' task bytes game.checked (plan_seen game.plan) given end few is.1, (bytes, given, few), steady)

-- why a source wasn't read to its end
pub unread_is : (task : Task) (limit : ℕ) (before after : Port) (fail : ReadFail) → limit ≡ limit_of task
    → (fail ≡ fails.ReadFault → HasFailed before after) → (fail ≢ fails.ReadFault → IsSteady before after)
    → (taken : List ℕ) × Supplied before after taken × ((fail ≡ fails.TooLong) ↔ (limit < length taken)) × (length taken ≤ limit + longest_read)
    → ReadsNone task before after (read_status fail)
unread_is task limit before after fails.ReadFault same cause steady lost =
    inl (refl, cause refl, (lost.0, lost.1, few_taken (cases_lt limit (length lost.0))))
  where
    few_taken : (limit < length lost.0) ⊎ (length lost.0 ≤ limit) → length lost.0 ≤ limit_of task
    few_taken (inl more) = let long = lost.2.1 more in absurd cc
    few_taken (inr few) = omega (arith, few, same)
unread_is task limit before after fails.TooLong same cause steady lost =
    let more = lost.2.0 refl in
    let most = lost.3 in
    inr (inl (refl, (lost.0, lost.1, omega (arith, more, same), omega (arith, most, same)), steady (λ is. absurd cc)))
unread_is task limit before after fails.Memory same cause steady lost =
    inr (inr (refl, (lost.0, lost.1, few_taken (cases_lt limit (length lost.0))), steady (λ is. absurd cc)))
  where
    few_taken : (limit < length lost.0) ⊎ (length lost.0 ≤ limit) → length lost.0 ≤ limit_of task
    few_taken (inl more) = let long = lost.2.1 more in absurd cc
    few_taken (inr few) = omega (arith, few, same)

-- no step is counted where nobody plays
counted_none : (before : Port) (task : Task) (steps : ℕ) → CountedFew before task steps steps
counted_none before task steps = by before.told
  where
    by : (told : Option (List ℕ)) → CountedFew (port told before.faults) task steps steps
    by None = tt
    by (Some source) = λ answer has. omega arith

-- a text that was handed on
pub delivered : (task : Task) (before after : Ports) (steps steps' playouts : ℕ) (bytes note : List ℕ) (status : Status)
    → IsNoteOf task note
    → Answers before.source after.source task (λ other. other ≡ text bytes note playouts) → steps' ≡ steps + playouts
    → IsSteady before.source after.source
    → Delivers bytes note before.out after.out before.notes after.notes status
    → Outcome task before after steps steps' status
delivered task before after steps steps' playouts bytes note status noted answers counted steady (inl done) =
    written done.0 note noted
    (answers_with before.source after.source task (text bytes note playouts) _ answers (bytes, playouts, refl, counted, done.1)) done.2 steady done.3
delivered task before after steps steps' playouts bytes note status noted answers counted steady (inr (inl failed)) =
    text_failed failed.0 failed.1 note noted
    (answers_with before.source after.source task (text bytes note playouts) _ answers (bytes, playouts, refl, counted, failed.2)) failed.3 steady
delivered task before after steps steps' playouts bytes note status noted answers counted steady (inr (inr failed)) =
    note_failed failed.0 failed.1 note noted
    (answers_with before.source after.source task (text bytes note playouts) _ answers (bytes, playouts, refl, counted, failed.2)) failed.3 steady failed.4

-- a source that wasn't read to its end, or for whose answer there was no memory
unread_so : (task : Task) (before after : Ports) (steps : ℕ) (status : Status) → ReadsNone task before.source after.source status
    → Refuses status before after → Outcome task before after steps steps status
unread_so task before after steps status (inl none) refuses = read_failed none.0 none.1 none.2 refuses refl
unread_so task before after steps status (inr (inl none)) refuses = too_long none.0 none.1 refuses refl none.2
unread_so task before after steps status (inr (inr none)) refuses =
    no_memory none.0 none.1 refuses (counted_none before.source task steps) none.2

-- what follows from a command's answer and from what was done with it
pub concluded : (task : Task) (before after : Ports) (steps steps' : ℕ) (answered : Result Stored Status) (status : Status)
    → AnswersSource task before.source after.source steps steps' answered
    → Concludes answered before.out after.out before.notes after.notes status → Outcome task before after steps steps' status
concluded task before after steps steps' (Ok (Text bytes note)) status is ends =
    delivered task before after steps steps' is.0 bytes.items (note_line note) status is.1.1 is.1.0 is.2 is.1.2 ends
concluded task before after steps steps' (Ok (Refused refusal)) status is ends =
    let counted = is.2 in
    refusing refusal ends.0 is.1.0 (record { untouched = ends.1; noted = ends.2 }) (omega (arith, counted)) is.1.2
concluded task before after steps steps' (Err why) status (inl none) ends =
    subst (λ steps'. Outcome task before after steps steps' status) (sym none.1)
    (unread_so task before after steps status (subst (ReadsNone task before.source after.source) (sym ends.0) none.0)
    (record { untouched = ends.1; noted = ends.2 }))
concluded task before after steps steps' (Err why) status (inr lacks) ends =
    no_memory (ends.0 ∙ lacks.0) lacks.1 (record { untouched = ends.1; noted = ends.2 }) lacks.2 lacks.3

-- the answers that two readings of one source give are alike
same_answer : (before after : Port) (task : Task) (P : Answer → Type 0) (source : List ℕ) (other : Answer)
    → Answers before after task P → before.told ≡ Some source → HasAnswer task source other
    → (answer : Answer) × P answer × AreAlike other answer
same_answer before after task P source other answers told has = by before.told told answers
  where
    by : (mine : Option (List ℕ)) → mine ≡ Some source → Answers (port mine before.faults) after task P
        → (answer : Answer) × P answer × AreAlike other answer
    by None told answers = absurd (cc)
    by (Some whole) told answers =
        let same : source ≡ whole = cc in
        (answers.2, answers.4, alike_answers task whole other answers.2 (subst (λ bytes. HasAnswer task bytes other) same has) answers.3)

-- alike answers have one status
one_status : (answer other : Answer) → AreAlike answer other → status_of answer ≡ status_of other
one_status (text bytes note playouts) (text bytes' note' playouts') alike = refl
one_status (refused refusal) (refused refusal') alike = ap refusal_status alike
one_status (text bytes note playouts) (refused refusal) alike = absurd alike
one_status (refused refusal) (text bytes note playouts) alike = absurd alike

-- a source that has few bytes doesn't give too many
not_too_much : (task : Task) (before after : Port) (source : List ℕ) → GaveTooMuch task before after → before.told ≡ Some source → length source ≤ limit_of task → ⊥
not_too_much task before after source gave told few = by before.told told gave
  where
    by : (mine : Option (List ℕ)) → mine ≡ Some source → GaveTooMuch task (port mine before.faults) after → ⊥
    by None told gave = absurd (cc)
    by (Some whole) told gave =
        let same : whole ≡ source = cc in
        omega (arith, ap length same, ap length gave.1.2, length-append gave.0 gave.1.0, gave.2)

-- a source past the limit has no answer
not_answered : (before after : Port) (task : Task) (P : Answer → Type 0) (source : List ℕ)
    → Answers before after task P → before.told ≡ Some source → limit_of task < length source → ⊥
not_answered before after task P source answers told long = by before.told told answers
  where
    by : (mine : Option (List ℕ)) → mine ≡ Some source → Answers (port mine before.faults) after task P → ⊥
    by None told answers = absurd (cc)
    by (Some whole) told answers =
        let same : whole ≡ source = cc in omega (arith, ap length same, answers.0)

-- a refusal is no text
refusal_is_no_text : (refusal : Refusal) (bytes note : List ℕ) (playouts : ℕ) (other : Answer) → AreAlike (refused refusal) other
    → other ≡ text bytes note playouts → ⊥
refusal_is_no_text refusal bytes note playouts other alike is = subst (AreAlike (refused refusal)) is alike

answers_due : (task : Task) (before after : Ports) (steps steps' : ℕ) (status : Status) → Outcome task before after steps steps' status
    → (source : List ℕ) (answer : Answer) → before.source.told ≡ Some source → length source ≤ limit_of task
    → HasAnswer task source answer → NoPortFailed answer before after → (status ≡ status_of answer) ⊎ (status ≡ Memory)
answers_due task before after steps steps' status (written is note noted answers took steady quiet) source answer told few has well =
    let same = same_answer before.source after.source task _ source answer answers told has in
    inl (is ∙ ap status_of (sym same.1.2) ∙ sym (one_status answer same.0 same.2))
answers_due task before after steps steps' status (refusing refusal is answers refuses counted steady) source answer told few has well =
    let same = same_answer before.source after.source task _ source answer answers told has in
    inl (is ∙ ap status_of (sym same.1) ∙ sym (one_status answer same.0 same.2))
answers_due task before after steps steps' status (no_memory is gave refuses counted steady) source answer told few has well = inr is
answers_due task before after steps steps' status (read_failed is failed gave refuses counted) source (text bytes note' playouts) told few has well = absurd (well.0 failed)
answers_due task before after steps steps' status (read_failed is failed gave refuses counted) source (refused refusal) told few has well = absurd (well failed)
answers_due task before after steps steps' status (too_long is gave refuses counted steady) source answer told few has well =
    absurd (not_too_much task before.source after.source source gave told few)
answers_due task before after steps steps' status (text_failed is failed note noted answers took steady) source (text bytes note' playouts) told few has well = absurd (well.1 failed)
answers_due task before after steps steps' status (text_failed is failed note noted answers took steady) source (refused refusal) told few has well =
    let same = same_answer before.source after.source task _ source (refused refusal) answers told has in
    absurd (refusal_is_no_text refusal same.1.0 note same.1.1 same.0 same.2 same.1.2)
answers_due task before after steps steps' status (note_failed is failed note noted answers took steady quiet) source (text bytes note' playouts) told few has well = absurd (well.2 failed)
answers_due task before after steps steps' status (note_failed is failed note noted answers took steady quiet) source (refused refusal) told few has well =
    let same = same_answer before.source after.source task _ source (refused refusal) answers told has in
    absurd (refusal_is_no_text refusal same.1.0 note same.1.1 same.0 same.2 same.1.2)

too_long_due : (task : Task) (before after : Ports) (steps steps' : ℕ) (status : Status) → Outcome task before after steps steps' status
    → (source : List ℕ) → before.source.told ≡ Some source → limit_of task < length source
    → (HasFailed before.source after.source → ⊥) → (status ≡ TooLong) ⊎ (status ≡ Memory)
too_long_due task before after steps steps' status (written is note noted answers took steady quiet) source told long well =
    absurd (not_answered before.source after.source task _ source answers told long)
too_long_due task before after steps steps' status (refusing refusal is answers refuses counted steady) source told long well =
    absurd (not_answered before.source after.source task _ source answers told long)
too_long_due task before after steps steps' status (no_memory is gave refuses counted steady) source told long well = inr is
too_long_due task before after steps steps' status (read_failed is failed gave refuses counted) source told long well = absurd (well failed)
too_long_due task before after steps steps' status (too_long is gave refuses counted steady) source told long well = inl is
too_long_due task before after steps steps' status (text_failed is failed note noted answers took steady) source told long well =
    absurd (not_answered before.source after.source task _ source answers told long)
too_long_due task before after steps steps' status (note_failed is failed note noted answers took steady quiet) source told long well =
    absurd (not_answered before.source after.source task _ source answers told long)

-- only want of memory keeps a command whose ports don't fail from the status of its answer
succeeds : (task : Task) (before after : Ports) (steps steps' : ℕ) (status : Status) → Outcome task before after steps steps' status
    → Succeeds task before after status
succeeds task before after steps steps' status ends =
    record { answers = answers_due task before after steps steps' status ends; too_long = too_long_due task before after steps steps' status ends }

-- a refusal isn't done
refusal_not_done : (refusal : Refusal) (status : Status) → status ≡ refusal_status refusal → status ≡ Done → ⊥
refusal_not_done (refusals.Sheet kind at) status is done = absurd cc
refusal_not_done (refusals.Plan kind at) status is done = absurd cc
refusal_not_done (refusals.Text line) status is done = absurd cc
refusal_not_done (refusals.Illegal line why) status is done = absurd cc
refusal_not_done refusals.Absent status is done = absurd cc

-- what `play` writes where it is done tells plays
writes_plays : (task : Task) (before after : Ports) (steps steps' : ℕ) (status : Status) → Outcome task before after steps steps' status
    → WritesPlays task before after status
writes_plays named.Check before after steps steps' status ends = tt
writes_plays named.Sheet before after steps steps' status ends = tt
writes_plays named.Migrate before after steps steps' status ends = tt
writes_plays (named.Watch seat number) before after steps steps' status ends = tt
writes_plays named.Measure before after steps steps' status ends = tt
writes_plays (named.Rival rival) before after steps steps' status ends = tt
writes_plays (Play options) before after steps steps' status (written is note noted answers took steady quiet) = λ done. by before.source.told answers
  where
    by : (told : Option (List ℕ)) → Answers (port told before.source.faults) after.source (Play options) (IsTextWith note steps steps' (Received before.out after.out))
        → IfSome told (λ source. (bytes : List ℕ) × Received before.out after.out bytes × TellsPlaysOf (is_named options.format) source bytes)
    by None answers = tt
    by (Some source) answers =
        let is = answers.4 in
        (is.0, is.4, written_played options source is.0 note is.1 (subst (HasAnswer (Play options) source) is.2 answers.3))
writes_plays (Play options) before after steps steps' status (refusing refusal is answers refuses counted steady) = λ done.
    absurd (refusal_not_done refusal status is done)
writes_plays (Play options) before after steps steps' status (no_memory is gave refuses counted steady) = λ done. absurd cc
writes_plays (Play options) before after steps steps' status (read_failed is failed gave refuses counted) = λ done. absurd cc
writes_plays (Play options) before after steps steps' status (too_long is gave refuses counted steady) = λ done. absurd cc
writes_plays (Play options) before after steps steps' status (text_failed is failed note noted answers took steady) = λ done. absurd cc
writes_plays (Play options) before after steps steps' status (note_failed is failed note noted answers took steady quiet) = λ done. absurd cc

-- a source was read and answered
pub performed : (task : Task) (before after : Ports) (steps steps' : ℕ) (status : Status) → Outcome task before after steps steps' status
    → Performs task before after steps steps' status
performed task before after steps steps' status ends =
    record {
      outcome = ends;
      succeeds = succeeds task before after steps steps' status ends;
      plays = writes_plays task before after steps steps' status ends;
    }
