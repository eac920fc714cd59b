-- Which lists behind a sheet are accepted as its plan, and the first fault of those that aren't.
use Rattle.std.specs.Prelude.{◌≡◌, ◌≢◌, ℕ, ◌⊎◌, List, [], ◌∷◌, length}
use Rattle.rc_base.specs.Tree.{Tree}
use Rattle.rc_play_spec.specs.Plan.{Plan}
use Rattle.rc_play_spec.specs.Faults.{plan_faults}
use Rattle.rc_play_spec.specs.Limits.{IsWithinLimits}
use Rattle.rc_play_spec.specs.PlanStands.{PlanStands}
use Rattle.rc_play_spec.specs.PlanFault.{IsPlanFault}
use Rattle.rc_play_spec.specs.declared.plan_fault.PlanKind.{PlanKind}
use Rattle.rc_play_spec.specs.declared.plan_fault.PlanKind.TheVariants.{Shape, Rest}

-- The plan of a form that has no fault as one for so many players: the plan within the limits that the form stands for,
-- with a strategy for each player. Of each form there is one at most.
pub record IsPlanOf (players : ℕ) (form : Tree) (plan : Plan) : Type 0 where
  pub faultless : plan_faults players form ≡ []
  pub stands : PlanStands plan form
  pub within : IsWithinLimits plan
  pub seats : length plan.strategies ≡ players

-- The first of these lists is read as this plan for so many players.
abbrev pub IsPlanRead : ℕ → List Tree → Plan → Type 0
IsPlanRead players [] plan = ⊥
IsPlanRead players (form ∷ others) plan = IsPlanOf players form plan

-- The first fault of the plan, where these are the lists and the rest that were read behind the sheet: it is missing,
-- or else it is the first fault of the first of them.
abbrev pub HasPlanReadFault : ℕ → List Tree → ℕ → PlanKind → ℕ → Type 0
HasPlanReadFault players [] rest kind at = (kind ≡ Shape) × (at ≡ rest)
HasPlanReadFault players (form ∷ others) rest kind at = IsPlanFault form players kind at

-- It is read as this plan, and nothing follows it in the source.
abbrev pub IsPlanAccepted : List ℕ → ℕ → List Tree → ℕ → Plan → Type 0
IsPlanAccepted source players others rest plan = IsPlanRead players others plan × (rest ≡ length source)

-- there is such a plan
abbrev pub HasPlan : List ℕ → ℕ → List Tree → ℕ → Type 0
HasPlan source players others rest = (plan : Plan) × IsPlanAccepted source players others rest plan

-- The first fault of the plan where nothing may follow it: the first fault as it is read; or else something follows it.
abbrev pub HasPlanFault : List ℕ → ℕ → List Tree → ℕ → PlanKind → ℕ → Type 0
HasPlanFault source players others rest kind at =
    HasPlanReadFault players others rest kind at
    ⊎ ((plan : Plan) × IsPlanRead players others plan × (rest ≢ length source) × (kind ≡ Rest) × (at ≡ rest))

-- Behind the first of these lists, the sheet, stands this plan, and it is accepted.
abbrev pub IsPlanned : List ℕ → ℕ → List Tree → ℕ → Plan → Type 0
IsPlanned source players lists rest plan =
    (form : Tree) (others : List Tree) → lists ≡ form ∷ others → IsPlanAccepted source players others rest plan

-- Behind the first of these lists stands a plan whose first fault is this.
abbrev pub IsPlanFaulty : List ℕ → ℕ → List Tree → ℕ → PlanKind → ℕ → Type 0
IsPlanFaulty source players lists rest kind at =
    (form : Tree) (others : List Tree) → lists ≡ form ∷ others → HasPlanFault source players others rest kind at

-- Behind the first of these lists stands this plan.
abbrev pub IsBehind : ℕ → List Tree → Plan → Type 0
IsBehind players lists plan =
    (form : Tree) (others : List Tree) → lists ≡ form ∷ others → IsPlanRead players others plan

-- Behind the first of these lists stands a plan whose first fault, as it is read, is this.
abbrev pub IsFaultyBehind : ℕ → List Tree → ℕ → PlanKind → ℕ → Type 0
IsFaultyBehind players lists rest kind at =
    (form : Tree) (others : List Tree) → lists ≡ form ∷ others → HasPlanReadFault players others rest kind at
