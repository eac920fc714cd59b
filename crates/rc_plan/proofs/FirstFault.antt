-- The first fault of a form: of the first round, or else of what its parts say together.
use Rattle.std.proofs.Common.{◌≡◌, ℕ, List, [], ◌∷◌, ◌++◌, Option, Some, None, refl, sym, ap, ◌∙◌}
use Rattle.rc_base.specs.Placed.{IsPlaced}
use Rattle.rc_base.specs.Tree.{Tree}
use Rattle.rc_play_spec.specs.Faults.{first_round, second_round, plan_faults}
use Rattle.rc_play_spec.specs.PlanFault.{first, IsPlanFault}
use Rattle.rc_play_spec.specs.declared.plan_fault.PlanFault.{PlanFault}
use Rattle.rc_play_spec.proofs.InOrder.{first_is_first}
use Rattle.rc_plan.specs.declared.draft.Draft.{Draft}
use Rattle.rc_plan.specs.declared.fail.PlanFail.{PlanFail}
use Rattle.rc_plan.specs.declared.fail.PlanFail.TheVariants.{Fault, Memory}
use Rattle.rc_plan.specs.Draft.{IsDraft, draft_faults}
use Rattle.rc_plan.specs.Reads.{IfPlanFault}
use Rattle.rc_plan.proofs.DraftLemmas.{IsSound, draft_says, sound_draft}

no_first : (faults : List PlanFault) → first faults ≡ None → faults ≡ []
no_first [] is = refl
no_first (fault ∷ faults) is = absurd cc

first_before : (xs ys : List PlanFault) (fault : PlanFault) → first xs ≡ Some fault → first (xs ++ ys) ≡ Some fault
first_before [] ys fault is = absurd cc
first_before (x ∷ xs) ys fault is = is

-- a fault of the first round
pub of_first_round : (fail : PlanFail) (players : ℕ) (form : Tree) (size : ℕ) → IsPlaced size form
    → IfPlanFault fail (λ fault. first (first_round form) ≡ Some fault) → IfPlanFault fail (λ fault. IsPlanFault form players fault.kind fault.at)
of_first_round Memory players form size placed told = tt
of_first_round (Fault fault) players form size placed told =
    first_is_first players form size fault placed (first_before (first_round form) (second_round players form) fault told)

-- where the first round finds nothing, all faults are those of the draft
all_faults : (draft : Draft) (form : Tree) (players : ℕ) → IsDraft draft form → first_round form ≡ [] → plan_faults players form ≡ draft_faults players draft
all_faults draft form players is none =
    ap (λ faults. faults ++ second_round players form) none ∙ draft_says draft form players is

pub of_draft : (draft : Draft) (form : Tree) (players size : ℕ) (found : Option PlanFault) (fault : PlanFault) → IsPlaced size form → IsDraft draft form
    → first_round form ≡ [] → found ≡ first (draft_faults players draft) → found ≡ Some fault → IsPlanFault form players fault.kind fault.at
of_draft draft form players size found fault placed is none first_is told =
    first_is_first players form size fault placed (ap first (all_faults draft form players is none) ∙ sym first_is ∙ told)

-- where nothing is found
pub no_fault : (draft : Draft) (form : Tree) (players : ℕ) → IsDraft draft form → first_round form ≡ [] → None ≡ first (draft_faults players draft)
    → plan_faults players form ≡ []
no_fault draft form players is none told = all_faults draft form players is none ∙ no_first (draft_faults players draft) (sym told)

pub sound : (draft : Draft) (players : ℕ) → None ≡ first (draft_faults players draft) → IsSound players draft
sound draft players told = sound_draft draft players (no_first (draft_faults players draft) (sym told))
