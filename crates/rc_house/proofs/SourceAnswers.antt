-- The forms of a source, and what is answered to them.
use Rattle.std.proofs.Common.{Some, None, Result, Ok, Err, IfOk, slice_get, ◌≡◌, ◌≤◌, ◌+◌, ℕ, List, [], ◌∷◌, length, drop, map, arith, refl, sym, ap, ◌∙◌, subst}
use Rattle.rc_base.specs.Spelled.{Spelled}
use Rattle.rc_base.specs.Tree.{Tree}
use Rattle.rc_base.specs.Transcript.{line}
use Rattle.rc_form.specs.declared.fault.FormKind.{FormKind}
use Rattle.rc_form.specs.declared.form.Form.{Form}
use Rattle.rc_form.specs.Form.{tree_of}
use Rattle.rc_form.specs.FormFault.{IsFormFault}
use Rattle.rc_sheet_spec.specs.Sheet.{Sheet}
use Rattle.rc_sheet_spec.specs.Printing.{printed_sheet}
use Rattle.rc_play_spec.specs.About.{about_of}
use Rattle.rc_play_spec.specs.Plan.{Plan}
use Rattle.rc_play_spec.proofs.SiteLemmas.{unwrap}
use Rattle.rc_play_spec.specs.declared.plan_fault.PlanKind.{PlanKind}
use Rattle.rc_plan.specs.declared.fail.PlanFail.{PlanFail}
use Rattle.rc_plan.specs.declared.fail.PlanFail.TheVariants as fails
use Rattle.rc_plan.specs.Reads.{IfPlanFault}
use Rattle.rc_house.specs.declared.answer.Answer.{Answer as Stored}
use Rattle.rc_house.specs.declared.answer.Answer.TheVariants.{Text, Refused}
use Rattle.rc_house.specs.declared.options.Options.{Options}
use Rattle.rc_house.specs.declared.rival.Rival.{Rival as NamedRival}
use Rattle.rc_house.specs.declared.task.Task.{Task}
use Rattle.rc_house.specs.declared.task.Task.TheVariants.{Play, Check, Sheet as PrintsSheet, Migrate, Watch, Measure, Rival}
use Rattle.rc_house.specs.declared.transcript.Judging.{Judging}
use Rattle.rc_house.specs.declared.transcript.Judging.TheVariants as judging
use Rattle.rc_house.specs.AcceptedPlan.{HasPlanReadFault, IsBehind, IsFaultyBehind, IsPlanned, IsPlanFaulty}
use Rattle.rc_house.specs.declared.refusal.Refusal.{Refusal}
use Rattle.rc_house.specs.declared.refusal.Refusal.TheVariants as refusal
use Rattle.rc_house.specs.declared.status.SourceKind.{SourceKind}
use Rattle.rc_house.specs.declared.status.SourceKind.TheVariants.{Shape}
use Rattle.rc_house.specs.Status.{source_kind}
use Rattle.rc_sheet.specs.Accepted.{IsAccepted}
use Rattle.rc_house.specs.Accepted.{HasFirstFault}
use Rattle.rc_house.specs.Task.{wanted}
use Rattle.rc_house.specs.Reading.{Reading, IsAcceptedWith}
use Rattle.rc_house.specs.Note.{note_line}
use Rattle.rc_house.specs.Answer.{Answer, text, refused, seen, playouts_of, AreAlike, IsAnswered, HasPlanRefusal, HasAnswer, form_faulty, sheet_faulty, plan_faulty, accepted, IsAnswerTo, IsJudged, IsPlanRefusal, IsSheetText, IsTranscribed, task_of, rivalled, watched}
use Rattle.rc_house.proofs.OneAnswer.{alike_answers}

-- the trees of forms of which this is the first, and of none
pub first_tree : (forms : List Form) (form : Form) → Some form ≡ slice_get forms 0
    → (others : List Tree) × (map tree_of forms ≡ tree_of form ∷ others)
first_tree [] form is = absurd cc
first_tree (x ∷ forms) form is =
    (map tree_of forms, ap (λ form. tree_of form ∷ map tree_of forms) (sym (unwrap _ _ is)))

pub no_tree : (forms : List Form) → None ≡ slice_get forms 0 → map tree_of forms ≡ []
no_tree [] is = refl
no_tree (x ∷ forms) is = absurd cc

-- the lists and the rest that are spelled, as they are read
abbrev reading : (source : List ℕ) (want : ℕ) (lists : List Tree) (rest : ℕ) → Spelled source want lists rest → Reading source want
reading source want lists rest spelled = record { lists = lists; rest = rest; spelled = spelled }

-- The first fault of the source's forms refuses it, where as many lists are wanted as the command wants.
pub fault_answered : (task : Task) (want : ℕ) (source : List ℕ) (kind : FormKind) (at : ℕ) → want ≡ wanted task
    → IsFormFault source want kind at → HasAnswer task source (refused (refusal.Sheet (source_kind kind) at))
fault_answered task want source kind at same is =
    form_faulty (source_kind kind) at (kind, subst (λ want. IsFormFault source want kind at) same is, refl) refl

-- A source without a sheet is refused where its rest begins.
pub missing_answer : (task : Task) (source : List ℕ) (lists : List Tree) (rest : ℕ) → lists ≡ []
    → Spelled source (wanted task) lists rest → HasAnswer task source (refused (refusal.Sheet Shape rest))
missing_answer task source [] rest none spelled = sheet_faulty (reading source _ [] rest spelled) Shape rest (refl, refl) refl
missing_answer task source (form ∷ others) rest none spelled = absurd (omega (arith, ap length none))

-- The first fault of the first list refuses the source.
pub refused_answer : (task : Task) (source : List ℕ) (lists : List Tree) (form : Tree) (others : List Tree) (rest : ℕ)
    (kind : SourceKind) (at : ℕ) → lists ≡ form ∷ others → Spelled source (wanted task) lists rest → HasFirstFault form kind at
    → HasAnswer task source (refused (refusal.Sheet kind at))
refused_answer task source lists form others rest kind at same spelled is =
    sheet_faulty (reading source _ (form ∷ others) rest (subst (λ lists. Spelled source (wanted task) lists rest) same spelled)) kind at is refl

-- the first list is accepted as this sheet
pub first_accepted : (lists : List Tree) (form : Tree) (others : List Tree) (sheet : Sheet) → lists ≡ form ∷ others
    → IsAccepted form sheet → IsAcceptedWith (λ other _. other ≡ sheet) lists
first_accepted lists form others sheet same is =
    subst (IsAcceptedWith (λ other _. other ≡ sheet)) (sym same) (sheet, is, refl)

-- what follows for the accepted sheet and the lists behind it
accepted_then : (Q : Sheet → List Tree → Type 0) (lists : List Tree) (sheet : Sheet) → IsAcceptedWith (λ other _. other ≡ sheet) lists
    → ((form : Tree) (others : List Tree) → lists ≡ form ∷ others → Q sheet others) → IsAcceptedWith Q lists
accepted_then Q [] sheet is follows = absurd is
accepted_then Q (form ∷ others) sheet is follows = (is.0, is.1, subst (λ sheet. Q sheet others) (sym is.2) (follows form others refl))

-- What is answered for the accepted sheet is the answer.
pub accepted_answer : (task : Task) (source : List ℕ) (lists : List Tree) (rest : ℕ) (sheet : Sheet) (answer : Answer)
    → Spelled source (wanted task) lists rest → IsAcceptedWith (λ other _. other ≡ sheet) lists
    → ((form : Tree) (others : List Tree) → lists ≡ form ∷ others → IsAnswered task source sheet others rest answer)
    → HasAnswer task source answer
accepted_answer task source lists rest sheet answer spelled is has =
    accepted (reading source _ lists rest spelled)
    (accepted_then (λ sheet others. IsAnswered task source sheet others rest answer) lists sheet is has)

-- The first fault of the plan behind the accepted sheet refuses the source.
pub plan_answer : (task : Task) (source : List ℕ) (lists : List Tree) (rest : ℕ) (sheet : Sheet) (kind : PlanKind) (at : ℕ)
    → Spelled source (wanted task) lists rest → IsAcceptedWith (λ other _. other ≡ sheet) lists
    → ((form : Tree) (others : List Tree) → lists ≡ form ∷ others → HasPlanRefusal task source sheet others rest kind at)
    → HasAnswer task source (refused (refusal.Plan kind at))
plan_answer task source lists rest sheet kind at spelled is has =
    plan_faulty (reading source _ lists rest spelled) kind at
    (accepted_then (λ sheet others. HasPlanRefusal task source sheet others rest kind at) lists sheet is has) refl

-- a refusal
pub refusal_is : (task : Task) (source : List ℕ) (refusal : Refusal) (answer : Stored) → answer ≡ Refused refusal
    → HasAnswer task source (refused refusal) → IsAnswerTo task source answer
refusal_is task source refusal answer is has = subst (IsAnswerTo task source) (sym is) has

-- an accepted sheet as it is printed
pub sheet_answer : (source : List ℕ) (lists : List Tree) (rest : ℕ) (sheet : Sheet) (answer : Stored)
    → Spelled source 1 lists rest → IsAcceptedWith (λ other _. other ≡ sheet) lists → IsSheetText sheet answer
    → IsAnswerTo PrintsSheet source answer
sheet_answer source lists rest sheet (Text bytes note) spelled is printed =
    let same : seen (Text bytes note) 0 ≡ text (line (printed_sheet sheet)) [] 0 =
    ap (λ bytes. text bytes (note_line note) 0) printed.0 ∙ ap (λ note. text (line (printed_sheet sheet)) (note_line note) 0) printed.1 in
    accepted_answer PrintsSheet source lists rest sheet (seen (Text bytes note) 0) spelled is (λ form others first. same)
sheet_answer source lists rest sheet (Refused refusal) spelled is printed = absurd printed

-- What is answered to the transcript behind an accepted sheet and plan is the answer.
pub transcript_accepted : (asked : Judging) (source : List ℕ) (lists : List Tree) (rest : ℕ) (sheet : Sheet) (answer : Answer)
    → Spelled source 2 lists rest → IsAcceptedWith (λ other _. other ≡ sheet) lists
    → ((form : Tree) (others : List Tree) → lists ≡ form ∷ others → IsTranscribed asked source sheet others rest answer)
    → HasAnswer (task_of asked) source answer
transcript_accepted judging.Check source lists rest sheet answer spelled is has = accepted_answer Check source lists rest sheet answer spelled is has
transcript_accepted judging.Migrate source lists rest sheet answer spelled is has = accepted_answer Migrate source lists rest sheet answer spelled is has
transcript_accepted judging.Measure source lists rest sheet answer spelled is has = accepted_answer Measure source lists rest sheet answer spelled is has

-- and the first fault of the plan, as it is read, refuses it
pub plan_refused : (asked : Judging) (source : List ℕ) (lists : List Tree) (rest : ℕ) (sheet : Sheet) (kind : PlanKind) (at : ℕ)
    → Spelled source 2 lists rest → IsAcceptedWith (λ other _. other ≡ sheet) lists
    → ((form : Tree) (others : List Tree) → lists ≡ form ∷ others → HasPlanReadFault sheet.players others rest kind at)
    → HasAnswer (task_of asked) source (refused (refusal.Plan kind at))
plan_refused judging.Check source lists rest sheet kind at spelled is has = plan_answer Check source lists rest sheet kind at spelled is has
plan_refused judging.Migrate source lists rest sheet kind at spelled is has = plan_answer Migrate source lists rest sheet kind at spelled is has
plan_refused judging.Measure source lists rest sheet kind at spelled is has = plan_answer Measure source lists rest sheet kind at spelled is has

-- a transcript that is judged
judged_so : (asked : Judging) (source : List ℕ) (lists : List Tree) (rest : ℕ) (sheet : Sheet) (plan : Plan) (answer : Stored)
    → Spelled source 2 lists rest → IsAcceptedWith (λ other _. other ≡ sheet) lists → IsBehind sheet.players lists plan
    → IsJudged asked (about_of sheet plan.turns) plan (drop rest source) answer → IsAnswerTo (task_of asked) source answer
judged_so asked source lists rest sheet plan answer spelled is behind judged =
    transcript_accepted asked source lists rest sheet (seen answer 0) spelled is (λ form others same. (plan, behind form others same, judged))

pub judged_answers : (asked : Judging) (source : List ℕ) (lists : List Tree) (rest : ℕ) (sheet : Sheet) (plan : Plan) {E : Type 0} (result : Result Stored E)
    → Spelled source 2 lists rest → IsAcceptedWith (λ other _. other ≡ sheet) lists → IsBehind sheet.players lists plan
    → IfOk result (IsJudged asked (about_of sheet plan.turns) plan (drop rest source)) → IfOk result (IsAnswerTo (task_of asked) source)
judged_answers asked source lists rest sheet plan (Err error) spelled is behind judged = tt
judged_answers asked source lists rest sheet plan (Ok answer) spelled is behind judged =
    judged_so asked source lists rest sheet plan answer spelled is behind judged

-- A plan that fails as it is read is refused for its first fault.
unread_answer : (asked : Judging) (source : List ℕ) (lists : List Tree) (rest : ℕ) (sheet : Sheet) (fail : PlanFail) (answer : Stored)
    → Spelled source 2 lists rest → IsAcceptedWith (λ other _. other ≡ sheet) lists
    → IfPlanFault fail (λ fault. IsFaultyBehind sheet.players lists rest fault.kind fault.at) → IsPlanRefusal fail answer
    → IsAnswerTo (task_of asked) source answer
unread_answer asked source lists rest sheet fails.Memory answer spelled is fault refusal_so = absurd refusal_so
unread_answer asked source lists rest sheet (fails.Fault found) answer spelled is fault refusal_so =
    refusal_is (task_of asked) source (refusal.Plan found.kind found.at) answer refusal_so
    (plan_refused asked source lists rest sheet found.kind found.at spelled is fault)

pub unread_answers : (asked : Judging) (source : List ℕ) (lists : List Tree) (rest : ℕ) (sheet : Sheet) (fail : PlanFail) {E : Type 0} (result : Result Stored E)
    → Spelled source 2 lists rest → IsAcceptedWith (λ other _. other ≡ sheet) lists
    → IfPlanFault fail (λ fault. IsFaultyBehind sheet.players lists rest fault.kind fault.at)
    → IfOk result (IsPlanRefusal fail) → IfOk result (IsAnswerTo (task_of asked) source)
unread_answers asked source lists rest sheet fail (Err error) spelled is fault refusal_so = tt
unread_answers asked source lists rest sheet fail (Ok answer) spelled is fault refusal_so =
    unread_answer asked source lists rest sheet fail answer spelled is fault refusal_so

-- A plan behind which nothing may follow, and that fails, is refused for its first fault.
failed_so : (task : Task) (source : List ℕ) (players : ℕ) (lists : List Tree) (rest : ℕ) (fail : PlanFail) (answer : Stored)
    → ((kind : PlanKind) (at : ℕ) → IsPlanFaulty source players lists rest kind at
    → HasAnswer task source (refused (refusal.Plan kind at)))
    → IfPlanFault fail (λ fault. IsPlanFaulty source players lists rest fault.kind fault.at) → IsPlanRefusal fail answer
    → IsAnswerTo task source answer
failed_so task source players lists rest fails.Memory answer refuses fault refusal_so = absurd refusal_so
failed_so task source players lists rest (fails.Fault found) answer refuses fault refusal_so =
    refusal_is task source (refusal.Plan found.kind found.at) answer refusal_so (refuses found.kind found.at fault)

pub failed_answer : (options : Options) (source : List ℕ) (lists : List Tree) (rest : ℕ) (sheet : Sheet) (fail : PlanFail) (answer : Stored)
    → Spelled source 2 lists rest → IsAcceptedWith (λ other _. other ≡ sheet) lists
    → IfPlanFault fail (λ fault. IsPlanFaulty source sheet.players lists rest fault.kind fault.at) → IsPlanRefusal fail answer
    → IsAnswerTo (Play options) source answer
failed_answer options source lists rest sheet fail answer spelled is fault refusal_so =
    failed_so (Play options) source sheet.players lists rest fail answer
    (λ kind at faulty. plan_answer (Play options) source lists rest sheet kind at spelled is faulty) fault refusal_so

failed_answers : (task : Task) (source : List ℕ) (players : ℕ) (lists : List Tree) (rest : ℕ) (fail : PlanFail)
    {E : Type 0} (result : Result Stored E)
    → ((kind : PlanKind) (at : ℕ) → IsPlanFaulty source players lists rest kind at
    → HasAnswer task source (refused (refusal.Plan kind at)))
    → IfPlanFault fail (λ fault. IsPlanFaulty source players lists rest fault.kind fault.at)
    → IfOk result (IsPlanRefusal fail) → IfOk result (IsAnswerTo task source)
failed_answers task source players lists rest fail (Err error) refuses fault refusal_so = tt
failed_answers task source players lists rest fail (Ok answer) refuses fault refusal_so =
    failed_so task source players lists rest fail answer refuses fault refusal_so

pub unwatched_answers : (seat number : ℕ) (source : List ℕ) (lists : List Tree) (rest : ℕ) (sheet : Sheet) (fail : PlanFail)
    {E : Type 0} (result : Result Stored E)
    → Spelled source 2 lists rest → IsAcceptedWith (λ other _. other ≡ sheet) lists
    → IfPlanFault fail (λ fault. IsPlanFaulty source sheet.players lists rest fault.kind fault.at)
    → IfOk result (IsPlanRefusal fail) → IfOk result (IsAnswerTo (Watch seat number) source)
unwatched_answers seat number source lists rest sheet fail result spelled is =
    failed_answers (Watch seat number) source sheet.players lists rest fail result
    (λ kind at faulty. plan_answer (Watch seat number) source lists rest sheet kind at spelled is faulty)

pub unrivalled_answers : (rival : NamedRival) (source : List ℕ) (lists : List Tree) (rest : ℕ) (sheet : Sheet) (fail : PlanFail)
    {E : Type 0} (result : Result Stored E)
    → Spelled source 2 lists rest → IsAcceptedWith (λ other _. other ≡ sheet) lists
    → IfPlanFault fail (λ fault. IsPlanFaulty source sheet.players lists rest fault.kind fault.at)
    → IfOk result (IsPlanRefusal fail) → IfOk result (IsAnswerTo (Rival rival) source)
unrivalled_answers rival source lists rest sheet fail result spelled is =
    failed_answers (Rival rival) source sheet.players lists rest fail result
    (λ kind at faulty. plan_answer (Rival rival) source lists rest sheet kind at spelled is faulty)

-- What is watched of an accepted sheet and plan is the answer.
pub watched_answers : (seat number : ℕ) (source : List ℕ) (lists : List Tree) (rest : ℕ) (sheet : Sheet) (plan : Plan)
    {E : Type 0} (result : Result Stored E)
    → Spelled source 2 lists rest → IsAcceptedWith (λ other _. other ≡ sheet) lists
    → IsPlanned source sheet.players lists rest plan
    → IfOk result (λ answer. seen answer 0 ≡ watched seat number (about_of sheet plan.turns) plan)
    → IfOk result (IsAnswerTo (Watch seat number) source)
watched_answers seat number source lists rest sheet plan (Err error) spelled is planned told = tt
watched_answers seat number source lists rest sheet plan (Ok answer) spelled is planned told =
    accepted_answer (Watch seat number) source lists rest sheet (seen answer 0) spelled is
    (λ form others listed. (plan, planned form others listed, told))

-- What is played with a search is the answer.
pub rivalled_answers : (rival : NamedRival) (source : List ℕ) (lists : List Tree) (rest : ℕ) (sheet : Sheet) (plan : Plan)
    {E : Type 0} (result : Result Stored E)
    → Spelled source 2 lists rest → IsAcceptedWith (λ other _. other ≡ sheet) lists
    → IsPlanned source sheet.players lists rest plan
    → IfOk result (λ answer. seen answer 0 ≡ rivalled rival (about_of sheet plan.turns) plan)
    → IfOk result (IsAnswerTo (Rival rival) source)
rivalled_answers rival source lists rest sheet plan (Err error) spelled is planned told = tt
rivalled_answers rival source lists rest sheet plan (Ok answer) spelled is planned told =
    accepted_answer (Rival rival) source lists rest sheet (seen answer 0) spelled is
    (λ form others listed. (plan, planned form others listed, told))

-- where no more steps were counted than playouts are for one answer, that is so of any answer to the source
pub counted_few : (task : Task) (source : List ℕ) (answer : Answer) (steps steps' : ℕ) → HasAnswer task source answer
    → steps' ≤ steps + playouts_of answer → (other : Answer) → HasAnswer task source other → steps' ≤ steps + playouts_of other
counted_few task source answer steps steps' has few other has' =
    subst (λ playouts. steps' ≤ steps + playouts) (as_many answer other (alike_answers task source answer other has has')) few
  where
    as_many : (answer other : Answer) → AreAlike answer other → playouts_of answer ≡ playouts_of other
    as_many (text bytes note playouts) (text bytes' note' playouts') alike = alike.1
    as_many (refused refusal) (refused refusal') alike = refl
    as_many (text bytes note playouts) (refused refusal) alike = absurd alike
    as_many (refused refusal) (text bytes note playouts) alike = absurd alike
