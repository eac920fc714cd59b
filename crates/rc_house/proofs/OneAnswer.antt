-- A command has one answer to a source.
use Rattle.std.proofs.Common.{◌≡◌, ◌≤◌, ℕ, List, drop, refl, sym, ◌∙◌, ap, subst, arith}
use Rattle.rc_base.specs.Tree.{Tree}
use Rattle.rc_sheet_spec.specs.Sheet as sheets
use Rattle.rc_play_spec.specs.About.{About, about_of}
use Rattle.rc_play_spec.specs.Plan.{Plan}
use Rattle.rc_redraw.specs.Asking.{Key}
use Rattle.rc_series.specs.Series.{looks_of}
use Rattle.rc_play_spec.specs.PlayedLaws.{house_text_in}
use Rattle.rc_house.specs.declared.options.Options.{Options}
use Rattle.rc_house.specs.declared.options.Format.{Format}
use Rattle.rc_house.specs.Words.{is_named}
use Rattle.rc_house.specs.declared.task.Task.{Task}
use Rattle.rc_house.specs.declared.task.Task.TheVariants.{Play, Check, Sheet, Migrate, Watch, Measure, Rival}
use Rattle.rc_house.specs.declared.transcript.Judging.{Judging}
use Rattle.rc_house.specs.declared.transcript.Judging.TheVariants as judging
use Rattle.rc_house.specs.declared.refusal.Refusal.TheVariants as refusal
use Rattle.rc_house.specs.Task.{wanted}
use Rattle.rc_house.specs.Reading.{Reading, HasSheetFault, IsAcceptedWith}
use Rattle.rc_house.specs.Players.{AreHits, alone, shared}
use Rattle.rc_house.specs.Answer.{Answer, text, refused, house_played, transcript_answer, rivalled, watched, AreAlike, IsAlone, IsAnswered, IsPlanAnswered, IsTranscribed, HasPlanRefusal, HasAnswer, form_faulty, sheet_faulty, plan_faulty, accepted}
use Rattle.rc_house.proofs.AcceptedLaws.{one_sheet_fault, accepted_no_fault, both_accepted}
use Rattle.rc_house.proofs.OneReading.{one_reading, read_has_no_fault, one_form_fault}
use Rattle.rc_house.proofs.PlanLaws.{accepted_no_plan_fault, one_plan_fault, one_accepted_plan, read_no_fault, one_read_fault, one_read_plan}

-- what is accepted of one reading is accepted of any
accepted_of : (P : sheets.Sheet → List Tree → ℕ → Type 0) (source : List ℕ) (want : ℕ) (read other : Reading source want)
    → IsAcceptedWith (λ sheet others. P sheet others other.rest) other.lists → IsAcceptedWith (λ sheet others. P sheet others read.rest) read.lists
accepted_of P source want read other is =
    let same = one_reading source want read other in
    subst (IsAcceptedWith (λ sheet others. P sheet others read.rest)) same.0
    (subst (λ rest. IsAcceptedWith (λ sheet others. P sheet others rest) other.lists) same.1 is)

-- what is faulty of one reading is so of any
faulty_of : (source : List ℕ) (want : ℕ) (read other : Reading source want) (kind : _) (at : ℕ)
    → HasSheetFault other.lists other.rest kind at → HasSheetFault read.lists read.rest kind at
faulty_of source want read other kind at has =
    let same = one_reading source want read other in
    subst (λ lists. HasSheetFault lists read.rest kind at) same.0
    (subst (λ rest. HasSheetFault other.lists rest kind at) same.1 has)

-- the hits of one worker are those of the looks
one_number : (options : Options) (looks : List Key) (found other : ℕ) → options.workers ≤ 1 → AreHits options looks found → AreHits options looks other
    → other ≡ found
one_number options looks found other few (alone one is) (alone one' is') = is' ∙ sym is
one_number options looks found other few (alone one is) (shared many most some) = absurd (omega (arith, few, many))
one_number options looks found other few (shared many most some) has = absurd (omega (arith, few, many))

-- a transcript has one answer
one_transcribed : (asked : Judging) (source : List ℕ) (sheet : sheets.Sheet) (others : List Tree) (rest : ℕ) (answer other : Answer)
    → IsTranscribed asked source sheet others rest answer → IsTranscribed asked source sheet others rest other → other ≡ answer
one_transcribed asked source sheet others rest answer other has has' =
    let same = one_read_plan sheet.players others has.0 has'.0 has.1 has'.1 in
    has'.2 ∙ ap (λ plan. transcript_answer asked (about_of sheet plan.turns) plan (drop rest source)) same ∙ sym has.2

-- an accepted plan has one answer
one_plan_answered : (answer_to : About → Plan → Answer) (source : List ℕ) (sheet : sheets.Sheet) (others : List Tree) (rest : ℕ)
    (answer other : Answer) → IsPlanAnswered answer_to source sheet others rest answer
    → IsPlanAnswered answer_to source sheet others rest other → other ≡ answer
one_plan_answered answer_to source sheet others rest answer other has has' =
    let same = one_accepted_plan source sheet.players others rest has.0 has'.0 has.1 has'.1 in
    has'.2 ∙ ap (λ plan. answer_to (about_of sheet plan.turns) plan) same ∙ sym has.2

-- of an accepted sheet one worker has one answer
one_accepted : (task : Task) (source : List ℕ) (sheet : sheets.Sheet) (others : List Tree) (rest : ℕ) (answer other : Answer) → IsAlone task
    → IsAnswered task source sheet others rest answer → IsAnswered task source sheet others rest other → other ≡ answer
one_accepted (Play options) source sheet others rest answer other few has has' =
    let same = one_accepted_plan source sheet.players others rest has.0 has'.0 has.1 has'.1 in
    let looks = λ (plan : Plan). looks_of (about_of sheet plan.turns) plan in
    let found = one_number options (looks has.0) has.2.0 has'.2.0 few has.2.1 (subst (λ plan. AreHits options (looks plan) has'.2.0) same has'.2.1) in
    has'.2.2 ∙ ap (λ plan. house_played options (about_of sheet plan.turns) plan has'.2.0) same
    ∙ ap (house_played options (about_of sheet has.0.turns) has.0) found ∙ sym has.2.2
one_accepted Check source sheet others rest answer other few has has' = one_transcribed judging.Check source sheet others rest answer other has has'
one_accepted Sheet source sheet others rest answer other few has has' = has' ∙ sym has
one_accepted Migrate source sheet others rest answer other few has has' = one_transcribed judging.Migrate source sheet others rest answer other has has'
one_accepted (Watch seat number) source sheet others rest answer other few has has' =
    one_plan_answered (watched seat number) source sheet others rest answer other has has'
one_accepted Measure source sheet others rest answer other few has has' = one_transcribed judging.Measure source sheet others rest answer other has has'
one_accepted (Rival rival) source sheet others rest answer other few has has' =
    one_plan_answered (rivalled rival) source sheet others rest answer other has has'

-- an answer is alike to itself
pub alike_itself : (answer : Answer) → AreAlike answer answer
alike_itself (text bytes note playouts) = (refl, refl)
alike_itself (refused refusal) = refl

-- the texts of two numbers of hits differ in their notes alone
alike_played : (options : Options) (about : About) (plan : Plan) (answer other : Answer) (found more : ℕ)
    → answer ≡ house_played options about plan found → other ≡ house_played options about plan more → AreAlike answer other
alike_played options about plan answer other found more is is' =
    subst (λ answer. AreAlike answer other) (sym is)
    (subst (AreAlike (house_played options about plan found)) (sym is') (refl, refl))

-- and so do the answers of several
alike_accepted : (task : Task) (source : List ℕ) (sheet : sheets.Sheet) (others : List Tree) (rest : ℕ) (answer other : Answer)
    → IsAnswered task source sheet others rest answer → IsAnswered task source sheet others rest other → AreAlike answer other
alike_accepted (Play options) source sheet others rest answer other has has' =
    let same = one_accepted_plan source sheet.players others rest has.0 has'.0 has.1 has'.1 in
    alike_played options (about_of sheet has.0.turns) has.0 answer other has.2.0 has'.2.0 has.2.2
    (has'.2.2 ∙ ap (λ plan. house_played options (about_of sheet plan.turns) plan has'.2.0) same)
alike_accepted Check source sheet others rest answer other has has' =
    subst (AreAlike answer) (sym (one_accepted Check source sheet others rest answer other tt has has')) (alike_itself answer)
alike_accepted Sheet source sheet others rest answer other has has' =
    subst (AreAlike answer) (sym (one_accepted Sheet source sheet others rest answer other tt has has')) (alike_itself answer)
alike_accepted Migrate source sheet others rest answer other has has' =
    subst (AreAlike answer) (sym (one_accepted Migrate source sheet others rest answer other tt has has')) (alike_itself answer)
alike_accepted (Watch seat number) source sheet others rest answer other has has' =
    subst (AreAlike answer) (sym (one_accepted (Watch seat number) source sheet others rest answer other tt has has')) (alike_itself answer)
alike_accepted Measure source sheet others rest answer other has has' =
    subst (AreAlike answer) (sym (one_accepted Measure source sheet others rest answer other tt has has')) (alike_itself answer)
alike_accepted (Rival rival) source sheet others rest answer other has has' =
    subst (AreAlike answer) (sym (one_accepted (Rival rival) source sheet others rest answer other tt has has')) (alike_itself answer)

-- a plan with a fault isn't accepted
no_plan_fault : (task : Task) (source : List ℕ) (sheet : sheets.Sheet) (others : List Tree) (rest : ℕ) (answer : Answer) (kind : _) (at : ℕ)
    → IsAnswered task source sheet others rest answer → HasPlanRefusal task source sheet others rest kind at → ⊥
no_plan_fault (Play options) source sheet others rest answer kind at has fault =
    accepted_no_plan_fault source sheet.players others rest has.0 kind at has.1 fault
no_plan_fault Check source sheet others rest answer kind at has fault = read_no_fault sheet.players others rest has.0 kind at has.1 fault
no_plan_fault Sheet source sheet others rest answer kind at has fault = fault
no_plan_fault Migrate source sheet others rest answer kind at has fault = read_no_fault sheet.players others rest has.0 kind at has.1 fault
no_plan_fault (Watch seat number) source sheet others rest answer kind at has fault =
    accepted_no_plan_fault source sheet.players others rest has.0 kind at has.1 fault
no_plan_fault Measure source sheet others rest answer kind at has fault = read_no_fault sheet.players others rest has.0 kind at has.1 fault
no_plan_fault (Rival rival) source sheet others rest answer kind at has fault =
    accepted_no_plan_fault source sheet.players others rest has.0 kind at has.1 fault

-- a plan has one first fault
one_plan_refusal : (task : Task) (source : List ℕ) (sheet : sheets.Sheet) (others : List Tree) (rest : ℕ) (kind other : _) (at offset : ℕ)
    → HasPlanRefusal task source sheet others rest kind at → HasPlanRefusal task source sheet others rest other offset
    → refusal.Plan other offset ≡ refusal.Plan kind at
one_plan_refusal (Play options) source sheet others rest kind other at offset has has' =
    one_plan_fault source sheet.players others rest kind other at offset has has'
one_plan_refusal Check source sheet others rest kind other at offset has has' =
    one_read_fault sheet.players others rest kind other at offset has has'
one_plan_refusal Sheet source sheet others rest kind other at offset has has' = absurd has
one_plan_refusal Migrate source sheet others rest kind other at offset has has' =
    one_read_fault sheet.players others rest kind other at offset has has'
one_plan_refusal (Watch seat number) source sheet others rest kind other at offset has has' =
    one_plan_fault source sheet.players others rest kind other at offset has has'
one_plan_refusal Measure source sheet others rest kind other at offset has has' =
    one_read_fault sheet.players others rest kind other at offset has has'
one_plan_refusal (Rival rival) source sheet others rest kind other at offset has has' =
    one_plan_fault source sheet.players others rest kind other at offset has has'

-- a sheet that is accepted has no fault
no_sheet_fault : (P : sheets.Sheet → List Tree → Type 0) (task : Task) (source : List ℕ) (kind : _) (at : ℕ)
    (read other : Reading source (wanted task)) → IsAcceptedWith P read.lists → HasSheetFault other.lists other.rest kind at → ⊥
no_sheet_fault P task source kind at read other is fault =
    accepted_no_fault P read.lists read.rest kind at is (faulty_of source (wanted task) read other kind at fault)

-- where all is accepted, the plan has no fault
done_or_plan : (task : Task) (source : List ℕ) (answer : Answer) (kind : _) (at : ℕ) (read other : Reading source (wanted task))
    → IsAcceptedWith (λ sheet others. IsAnswered task source sheet others read.rest answer) read.lists
    → IsAcceptedWith (λ sheet others. HasPlanRefusal task source sheet others other.rest kind at) other.lists → ⊥
done_or_plan task source answer kind at read other has fault =
    let both = both_accepted read.lists has
    (accepted_of (λ sheet others rest. HasPlanRefusal task source sheet others rest kind at) source (wanted task) read other fault) in
    no_plan_fault task source both.0 both.1 read.rest answer kind at both.2 both.3

-- equal answers
equal_so : (R : Answer → Answer → Type 0) → ((answer : Answer) → R answer answer) → (answer other : Answer) → other ≡ answer → R answer other
equal_so R itself answer other same = subst (R answer) (sym same) (itself answer)

-- What holds of an answer and itself, and of two answers that are accepted, holds of any two answers to a source.
by_cases : (task : Task) (source : List ℕ) (answer other : Answer) (R : Answer → Answer → Type 0) → ((answer : Answer) → R answer answer)
    → ((sheet : sheets.Sheet) (others : List Tree) (rest : ℕ) → IsAnswered task source sheet others rest answer → IsAnswered task source sheet others rest other → R answer other)
    → HasAnswer task source answer → HasAnswer task source other → R answer other
by_cases task source answer other R itself where_accepted (form_faulty kind at has is) (form_faulty kind' at' has' is') =
    equal_so R itself answer other (is' ∙ ap refused (one_form_fault source (wanted task) kind kind' at at' has has') ∙ sym is)
by_cases task source answer other R itself where_accepted (form_faulty kind at has is) (sheet_faulty read kind' at' has' is') =
    absurd (read_has_no_fault source (wanted task) kind at read has)
by_cases task source answer other R itself where_accepted (form_faulty kind at has is) (plan_faulty read kind' at' has' is') =
    absurd (read_has_no_fault source (wanted task) kind at read has)
by_cases task source answer other R itself where_accepted (form_faulty kind at has is) (accepted read has') =
    absurd (read_has_no_fault source (wanted task) kind at read has)
by_cases task source answer other R itself where_accepted (sheet_faulty read kind at has is) (form_faulty kind' at' has' is') =
    absurd (read_has_no_fault source (wanted task) kind' at' read has')
by_cases task source answer other R itself where_accepted (sheet_faulty read kind at has is) (sheet_faulty read' kind' at' has' is') =
    equal_so R itself answer other
    (is' ∙ ap refused (one_sheet_fault read.lists read.rest kind kind' at at' has (faulty_of source (wanted task) read read' kind' at' has')) ∙ sym is)
by_cases task source answer other R itself where_accepted (sheet_faulty read kind at has is) (plan_faulty read' kind' at' has' is') =
    absurd (no_sheet_fault _ task source kind at read' read has' has)
by_cases task source answer other R itself where_accepted (sheet_faulty read kind at has is) (accepted read' has') =
    absurd (no_sheet_fault _ task source kind at read' read has' has)
by_cases task source answer other R itself where_accepted (plan_faulty read kind at has is) (form_faulty kind' at' has' is') =
    absurd (read_has_no_fault source (wanted task) kind' at' read has')
by_cases task source answer other R itself where_accepted (plan_faulty read kind at has is) (sheet_faulty read' kind' at' has' is') =
    absurd (no_sheet_fault _ task source kind' at' read read' has has')
by_cases task source answer other R itself where_accepted (plan_faulty read kind at has is) (plan_faulty read' kind' at' has' is') =
    let both = both_accepted read.lists has
    (accepted_of (λ sheet others rest. HasPlanRefusal task source sheet others rest kind' at') source (wanted task) read read' has') in
    equal_so R itself answer other
    (is' ∙ ap refused (one_plan_refusal task source both.0 both.1 read.rest kind kind' at at' both.2 both.3) ∙ sym is)
by_cases task source answer other R itself where_accepted (plan_faulty read kind at has is) (accepted read' has') =
    absurd (done_or_plan task source other kind at read' read has' has)
by_cases task source answer other R itself where_accepted (accepted read has) (form_faulty kind' at' has' is') =
    absurd (read_has_no_fault source (wanted task) kind' at' read has')
by_cases task source answer other R itself where_accepted (accepted read has) (sheet_faulty read' kind' at' has' is') =
    absurd (no_sheet_fault _ task source kind' at' read read' has has')
by_cases task source answer other R itself where_accepted (accepted read has) (plan_faulty read' kind' at' has' is') =
    absurd (done_or_plan task source answer kind' at' read read' has has')
by_cases task source answer other R itself where_accepted (accepted read has) (accepted read' has') =
    let both = both_accepted read.lists has
    (accepted_of (λ sheet others rest. IsAnswered task source sheet others rest other) source (wanted task) read read' has') in
    where_accepted both.0 both.1 read.rest both.2 both.3

pub only_answer : (task : Task) (source : List ℕ) (answer other : Answer) → IsAlone task → HasAnswer task source answer
    → HasAnswer task source other → other ≡ answer
only_answer task source answer other few has has' =
    by_cases task source answer other (λ answer other. other ≡ answer) (λ answer. refl)
    (λ sheet others rest is is'. one_accepted task source sheet others rest answer other few is is') has has'

pub alike_answers : (task : Task) (source : List ℕ) (answer other : Answer) → HasAnswer task source answer → HasAnswer task source other
    → AreAlike answer other
alike_answers task source answer other has has' =
    by_cases task source answer other AreAlike alike_itself
    (λ sheet others rest is is'. alike_accepted task source sheet others rest answer other is is') has has'

-- the text of an accepted sheet and plan, whoever plays
played_text : (options : Options) (source : List ℕ) (sheet : sheets.Sheet) (others : List Tree) (rest : ℕ) (bytes note : List ℕ) (playouts : ℕ)
    (is : IsAnswered (Play options) source sheet others rest (text bytes note playouts))
    → bytes ≡ house_text_in (is_named options.format) (about_of sheet is.0.turns) is.0
played_text options source sheet others rest bytes note playouts is = let same = is.2.2 in cc

-- a text that is answered
pub text_accepted : (options : Options) (source bytes note : List ℕ) (playouts : ℕ) → HasAnswer (Play options) source (text bytes note playouts)
    → (read : Reading source 2) × IsAcceptedWith (λ sheet others. IsAnswered (Play options) source sheet others read.rest (text bytes note playouts)) read.lists
text_accepted options source bytes note playouts (form_faulty kind at has is) = absurd cc
text_accepted options source bytes note playouts (sheet_faulty read kind at has is) = absurd cc
text_accepted options source bytes note playouts (plan_faulty read kind at has is) = absurd cc
text_accepted options source bytes note playouts (accepted read has) = (read, has)

pub same_texts : (options others : Options) (source bytes bytes' note note' : List ℕ) (playouts playouts' : ℕ) → options.format ≡ others.format
    → HasAnswer (Play options) source (text bytes note playouts) → HasAnswer (Play others) source (text bytes' note' playouts')
    → bytes ≡ bytes'
same_texts options others source bytes bytes' note note' playouts playouts' format has has' =
    let mine = text_accepted options source bytes note playouts has in
    let own = text_accepted others source bytes' note' playouts' has' in
    let both = both_accepted mine.0.lists mine.1
    (accepted_of (λ sheet lists rest. IsAnswered (Play others) source sheet lists rest (text bytes' note' playouts')) source 2 mine.0 own.0 own.1) in
    let same = one_accepted_plan source both.0.players both.1 mine.0.rest both.2.0 both.3.0 both.2.1 both.3.1 in
    played_text options source both.0 both.1 mine.0.rest bytes note playouts both.2
    ∙ ap (λ (format : Format). house_text_in (is_named format) (about_of both.0 both.2.0.turns) both.2.0) format
    ∙ sym (played_text others source both.0 both.1 mine.0.rest bytes' note' playouts' both.3
    ∙ ap (λ plan. house_text_in (is_named others.format) (about_of both.0 plan.turns) plan) same)
