-- A command has an answer to each source.
use Rattle.std.proofs.Common.{◌≡◌, ◌<◌, ◌≤◌, ℕ, List, [], ◌∷◌, drop, Option, Some, None, ◌⊎◌, inl, inr, refl, subst, arith}
use Rattle.std.proofs.lemmas.Bool.{cases_lt}
use Rattle.rc_base.specs.Spelled.{Spelled}
use Rattle.rc_base.specs.Tree.{Tree}
use Rattle.rc_base.specs.Transcript.{line}
use Rattle.rc_check.specs.declared.fault.SheetFault.{SheetFault}
use Rattle.rc_check.specs.SecondFaults.{sheet_fault}
use Rattle.rc_sheet_spec.specs.Sheet as sheets
use Rattle.rc_sheet_spec.specs.Printing.{printed_sheet}
use Rattle.rc_sheet_spec.specs.Sight.{IsInSight, IsUnseen}
use Rattle.rc_form.specs.FormFault.{IsSpelledOrFaulty}
use Rattle.rc_form.proofs.ReadIsFault.{spelled_or_faulty}
use Rattle.rc_form.proofs.AtomsAreRead.{of_atoms-first}
use Rattle.rc_form.proofs.TopLists.{fits-first}
use Rattle.rc_sheet.proofs.Accepted.{has_sheet}
use Rattle.rc_play_spec.specs.About.{about_of}
use Rattle.rc_play_spec.specs.Plan.{Plan}
use Rattle.rc_play_spec.specs.declared.plan_fault.PlanKind.{PlanKind}
use Rattle.rc_redraw.specs.Asking.{Key}
use Rattle.rc_cache.specs.Hits.{hits}
use Rattle.rc_series.specs.Series.{looks_of}
use Rattle.rc_house.specs.declared.options.Options.{Options}
use Rattle.rc_house.specs.declared.task.Task.{Task}
use Rattle.rc_house.specs.declared.task.Task.TheVariants.{Play, Check, Sheet, Migrate, Watch, Measure, Rival}
use Rattle.rc_house.specs.declared.transcript.Judging.{Judging}
use Rattle.rc_house.specs.declared.transcript.Judging.TheVariants as judging
use Rattle.rc_house.specs.declared.refusal.Refusal.TheVariants as refusal
use Rattle.rc_house.specs.declared.status.SourceKind.TheVariants.{Shape, Unseen}
use Rattle.rc_house.specs.Status.{source_kind, sheet_kind}
use Rattle.rc_sheet.specs.Accepted.{IsSheetOf, IsAccepted}
use Rattle.rc_house.specs.AcceptedPlan.{HasPlanFault, HasPlanReadFault, IsPlanAccepted, IsPlanRead}
use Rattle.rc_house.specs.Task.{wanted}
use Rattle.rc_house.specs.Reading.{IsAcceptedWith}
use Rattle.rc_house.specs.Players.{AreHits, alone, shared}
use Rattle.rc_house.specs.Answer.{Answer, text, refused, house_played, transcript_answer, rivalled, watched, HasPlanRefusal, IsAnswered, HasAnswer, form_faulty, task_of}
use Rattle.rc_house.proofs.AcceptedLaws.{in_sight_or_not}
use Rattle.rc_house.proofs.FirstFaults.{first_found}
use Rattle.rc_house.proofs.SourceAnswers.{missing_answer, refused_answer, first_accepted, accepted_answer, plan_answer, transcript_accepted, plan_refused}
use Rattle.rc_house.proofs.PlanLaws.{IsPlanOrFault, plan_or_fault, IsReadOrFault, read_or_fault}

-- so many looks may hit
pub some_hits : (options : Options) (looks : List Key) → (found : ℕ) × AreHits options looks found
some_hits options looks = by (cases_lt 1 options.workers)
  where
    by : (1 < options.workers) ⊎ (options.workers ≤ 1) → (found : ℕ) × AreHits options looks found
    by (inl many) = (0, shared many (omega arith) (λ some. some))
    by (inr few) = (hits looks options.cache, alone few refl)

-- the command has an answer to this source
abbrev SomeAnswer : Task → List ℕ → Type 0
SomeAnswer task source = (answer : Answer) × HasAnswer task source answer

-- a source that is read, with a sheet that is accepted and a transcript
transcribed : (asked : Judging) (source : List ℕ) (form : Tree) (others : List Tree) (rest : ℕ) (sheet : sheets.Sheet)
    → Spelled source 2 (form ∷ others) rest → IsAccepted form sheet → SomeAnswer (task_of asked) source
transcribed asked source form others rest sheet spelled is =
    by_plan (read_or_fault sheet.players others rest is.of_form.well.limits.some_players is.of_form.well.limits.players)
  where
    behind : (first : Tree) (more : List Tree) → form ∷ others ≡ first ∷ more → others ≡ more
    behind first more same = cc

    sheet_is : IsAcceptedWith (λ other _. other ≡ sheet) (form ∷ others)
    sheet_is = first_accepted (form ∷ others) form others sheet refl is

    by_plan : IsReadOrFault sheet.players others rest → SomeAnswer (task_of asked) source
    by_plan (inl plan) =
        let answer = transcript_answer asked (about_of sheet plan.0.turns) plan.0 (drop rest source) in (
          answer,
          transcript_accepted asked source (form ∷ others) rest sheet answer spelled sheet_is
              (λ first more same. (plan.0, subst (λ others. IsPlanRead sheet.players others plan.0) (behind first more same) plan.1, refl)),
        )
    by_plan (inr fault) = (
      refused (refusal.Plan fault.0 fault.1),
      plan_refused asked source (form ∷ others) rest sheet fault.0 fault.1 spelled sheet_is
          (λ first more same. subst (λ others. HasPlanReadFault sheet.players others rest fault.0 fault.1) (behind first more same) fault.2),
    )

-- with a sheet that is accepted and a plan that nothing may follow
planned : (task : Task) (source : List ℕ) (form : Tree) (others : List Tree) (rest : ℕ) (sheet : sheets.Sheet)
    → Spelled source (wanted task) (form ∷ others) rest → IsAccepted form sheet
    → ((others : List Tree) (plan : Plan) → IsPlanAccepted source sheet.players others rest plan
    → (answer : Answer) × IsAnswered task source sheet others rest answer)
    → ((others : List Tree) (kind : PlanKind) (at : ℕ) → HasPlanFault source sheet.players others rest kind at
    → HasPlanRefusal task source sheet others rest kind at)
    → SomeAnswer task source
planned task source form others rest sheet spelled is answers refuses =
    by_plan (plan_or_fault source sheet.players others rest is.of_form.well.limits.some_players is.of_form.well.limits.players)
  where
    behind : (first : Tree) (more : List Tree) → form ∷ others ≡ first ∷ more → others ≡ more
    behind first more same = cc

    sheet_is : IsAcceptedWith (λ other _. other ≡ sheet) (form ∷ others)
    sheet_is = first_accepted (form ∷ others) form others sheet refl is

    by_plan : IsPlanOrFault source sheet.players others rest → SomeAnswer task source
    by_plan (inl plan) =
        let found = answers others plan.0 plan.1 in (
          found.0,
          accepted_answer task source (form ∷ others) rest sheet found.0 spelled sheet_is
              (λ first more same. subst (λ others. IsAnswered task source sheet others rest found.0) (behind first more same) found.1),
        )
    by_plan (inr fault) = (
      refused (refusal.Plan fault.0 fault.1),
      plan_answer task source (form ∷ others) rest sheet fault.0 fault.1 spelled sheet_is
          (λ first more same.
          subst (λ others. HasPlanRefusal task source sheet others rest fault.0 fault.1) (behind first more same)
          (refuses others fault.0 fault.1 fault.2)),
    )

-- and with a sheet that is accepted
accepted : (task : Task) (source : List ℕ) (form : Tree) (others : List Tree) (rest : ℕ) (sheet : sheets.Sheet)
    → Spelled source (wanted task) (form ∷ others) rest → IsAccepted form sheet → SomeAnswer task source
accepted Sheet source form others rest sheet spelled is =
    let answer = text (line (printed_sheet sheet)) [] 0 in (
      answer,
      accepted_answer Sheet source (form ∷ others) rest sheet answer spelled
          (first_accepted (form ∷ others) form others sheet refl is) (λ form others same. refl),
    )
accepted Check source form others rest sheet spelled is = transcribed judging.Check source form others rest sheet spelled is
accepted Migrate source form others rest sheet spelled is = transcribed judging.Migrate source form others rest sheet spelled is
accepted Measure source form others rest sheet spelled is = transcribed judging.Measure source form others rest sheet spelled is
accepted (Watch seat number) source form others rest sheet spelled is =
    planned (Watch seat number) source form others rest sheet spelled is
    (λ others plan has. (watched seat number (about_of sheet plan.turns) plan, (plan, has, refl))) (λ others kind at fault. fault)
accepted (Rival rival) source form others rest sheet spelled is =
    planned (Rival rival) source form others rest sheet spelled is
    (λ others plan has. (rivalled rival (about_of sheet plan.turns) plan, (plan, has, refl))) (λ others kind at fault. fault)
accepted (Play options) source form others rest sheet spelled is =
    planned (Play options) source form others rest sheet spelled is
    (λ others plan has.
    let about = about_of sheet plan.turns in
    let hits = some_hits options (looks_of about plan) in
    (house_played options about plan hits.0, (plan, has, (hits.0, hits.1, refl))))
    (λ others kind at fault. fault)

-- one whose first list has no fault of its parts
faultless : (task : Task) (source : List ℕ) (form : Tree) (others : List Tree) (rest : ℕ) (sheet : sheets.Sheet)
    → Spelled source (wanted task) (form ∷ others) rest → IsSheetOf form sheet → IsInSight sheet ⊎ ((at : ℕ) × IsUnseen sheet at)
    → SomeAnswer task source
faultless task source form others rest sheet spelled is (inl sight) =
    accepted task source form others rest sheet spelled (record { of_form = is; sight = sight })
faultless task source form others rest sheet spelled is (inr unseen) = (
  refused (refusal.Sheet Unseen unseen.0),
  refused_answer task source (form ∷ others) form others rest Unseen unseen.0 refl spelled (inr (refl, sheet, is, unseen.1)),
)

-- one that is read
read : (task : Task) (source : List ℕ) (lists : List Tree) (rest : ℕ) → Spelled source (wanted task) lists rest
    → SomeAnswer task source
read task source [] rest spelled = (refused (refusal.Sheet Shape rest), missing_answer task source [] rest refl spelled)
read task source (form ∷ others) rest spelled = by (sheet_fault form) refl
  where
    by : (found : Option SheetFault) → sheet_fault form ≡ found → SomeAnswer task source
    by (Some found) is = (
      refused (refusal.Sheet (sheet_kind found.kind) found.at),
      refused_answer task source (form ∷ others) form others rest (sheet_kind found.kind) found.at refl spelled
          (inl (found, is, first_found source (wanted task) form others rest found spelled is, refl, refl)),
    )
    by None none =
        let made = has_sheet form none (fits-first source (wanted task) form others rest spelled) (of_atoms-first source (wanted task) form others rest spelled) in
        let is : IsSheetOf form made.0 = record { faultless = none; stands = made.1; well = made.2 } in
        faultless task source form others rest made.0 spelled is (in_sight_or_not made.0)

pub answered : (task : Task) (source : List ℕ) → SomeAnswer task source
answered task source = by (spelled_or_faulty source (wanted task))
  where
    by : IsSpelledOrFaulty source (wanted task) → SomeAnswer task source
    by (inl spelled) = read task source spelled.0 spelled.1 spelled.2
    by (inr fault) = (refused (refusal.Sheet (source_kind fault.0) fault.1), form_faulty (source_kind fault.0) fault.1 (fault.0, fault.2, refl) refl)
