-- The lists behind a sheet are accepted as its plan, or they have one first fault.
use Rattle.std.proofs.Common.{◌≡◌, ◌≢◌, ℕ, ◌⊎◌, List, [], ◌∷◌, ◌<◌, ◌≤◌, get_or, length, inl, inr, refl, sym, ◌∙◌, ap, subst, arith}
use Rattle.std.specs.List.{Contains}
use Rattle.std.proofs.lemmas.Bool.{cases_eq}
use Rattle.rc_base.specs.Tree.{Tree}
use Rattle.rc_play_spec.specs.Faults.{plan_faults}
use Rattle.rc_play_spec.specs.PlanFault.{IsFirstOf, IsPlanFault}
use Rattle.rc_play_spec.specs.declared.plan_fault.PlanFault.{PlanFault}
use Rattle.rc_play_spec.specs.declared.plan_fault.PlanKind.{PlanKind}
use Rattle.rc_play_spec.specs.declared.plan_fault.PlanKind.TheVariants.{Shape, Rest}
use Rattle.rc_play_spec.proofs.OneFault.{one_first, some_first}
use Rattle.rc_house.specs.declared.refusal.Refusal.TheVariants as refusal
use Rattle.rc_form.specs.Form.{tree_of, trees_of}
use Rattle.rc_form.specs.declared.form.Form.{Form}
use Rattle.rc_play_spec.specs.Plan.{Plan}
use Rattle.rc_play_spec.proofs.OnePlan.{one_plan}
use Rattle.rc_play_spec.proofs.SomePlan.{some_plan}
use Rattle.rc_plan.specs.declared.fail.PlanFail.{PlanFail}
use Rattle.rc_plan.specs.declared.fail.PlanFail.TheVariants as fails
use Rattle.rc_plan.specs.Reads.{IfPlanFault}
use Rattle.rc_house.specs.AcceptedPlan.{HasPlanFault, IsFaultyBehind, IsPlanFaulty, HasPlanReadFault, IsPlanAccepted, IsPlanRead, HasPlan}

-- no fault is one of none
none_first : (form : Tree) (players : ℕ) (kind : PlanKind) (at : ℕ) → plan_faults players form ≡ [] → IsPlanFault form players kind at → ⊥
none_first form players kind at none is =
    let stands = subst (λ faults. Contains faults (record { kind = kind; at = at })) none is.stands in omega (arith, stands.1)

-- a plan that is read has no fault
pub read_no_fault : (players : ℕ) (others : List Tree) (rest : ℕ) (plan : Plan) (kind : PlanKind) (at : ℕ)
    → IsPlanRead players others plan → HasPlanReadFault players others rest kind at → ⊥
read_no_fault players [] rest plan kind at is has = is
read_no_fault players (form ∷ others) rest plan kind at is has = none_first form players kind at is.faultless has

-- and so has one that is accepted
pub accepted_no_plan_fault : (source : List ℕ) (players : ℕ) (others : List Tree) (rest : ℕ) (plan : Plan) (kind : PlanKind) (at : ℕ)
    → IsPlanAccepted source players others rest plan → HasPlanFault source players others rest kind at → ⊥
accepted_no_plan_fault source players others rest plan kind at is (inl has) = read_no_fault players others rest plan kind at is.0 has
accepted_no_plan_fault source players others rest plan kind at is (inr has) = has.2 is.1

same_fault : (kind other : PlanKind) (at offset : ℕ) → other ≡ kind → offset ≡ at → refusal.Plan other offset ≡ refusal.Plan kind at
same_fault kind other at offset is same = cc

-- there is one plan that is read
pub one_read_plan : (players : ℕ) (others : List Tree) (plan other : Plan) → IsPlanRead players others plan → IsPlanRead players others other → other ≡ plan
one_read_plan players [] plan other is is' = absurd is
one_read_plan players (form ∷ others) plan other is is' = one_plan other plan form is'.stands is.stands

-- and one that is accepted
pub one_accepted_plan : (source : List ℕ) (players : ℕ) (others : List Tree) (rest : ℕ) (plan other : Plan)
    → IsPlanAccepted source players others rest plan → IsPlanAccepted source players others rest other → other ≡ plan
one_accepted_plan source players others rest plan other is is' = one_read_plan players others plan other is.0 is'.0

-- there is one first fault as it is read
pub one_read_fault : (players : ℕ) (others : List Tree) (rest : ℕ) (kind other : PlanKind) (at offset : ℕ)
    → HasPlanReadFault players others rest kind at → HasPlanReadFault players others rest other offset
    → refusal.Plan other offset ≡ refusal.Plan kind at
one_read_fault players [] rest kind other at offset has has' =
    same_fault kind other at offset (has'.0 ∙ sym has.0) (has'.1 ∙ sym has.1)
one_read_fault players (form ∷ others) rest kind other at offset has has' =
    let same = one_first (plan_faults players form) (record { kind = other; at = offset }) (record { kind = kind; at = at }) has' has in
    same_fault kind other at offset same.0 same.1

-- and one where nothing may follow the plan
pub one_plan_fault : (source : List ℕ) (players : ℕ) (others : List Tree) (rest : ℕ) (kind other : PlanKind) (at offset : ℕ)
    → HasPlanFault source players others rest kind at → HasPlanFault source players others rest other offset
    → refusal.Plan other offset ≡ refusal.Plan kind at
one_plan_fault source players others rest kind other at offset (inl has) (inl has') = one_read_fault players others rest kind other at offset has has'
one_plan_fault source players others rest kind other at offset (inl has) (inr has') = absurd (read_no_fault players others rest has'.0 kind at has'.1 has)
one_plan_fault source players others rest kind other at offset (inr has) (inl has') = absurd (read_no_fault players others rest has.0 other offset has.1 has')
one_plan_fault source players others rest kind other at offset (inr has) (inr has') =
    same_fault kind other at offset (has'.3 ∙ sym has.3) (has'.4 ∙ sym has.4)

-- a plan is read, or it has a fault
abbrev pub IsReadOrFault : ℕ → List Tree → ℕ → Type 0
IsReadOrFault players others rest =
    ((plan : Plan) × IsPlanRead players others plan) ⊎ ((kind : PlanKind) × (at : ℕ) × HasPlanReadFault players others rest kind at)

pub read_or_fault : (players : ℕ) (others : List Tree) (rest : ℕ) → 1 ≤ players → players ≤ 8 → IsReadOrFault players others rest
read_or_fault players [] rest some few = inr (Shape, rest, (refl, refl))
read_or_fault players (form ∷ others) rest some few = by (plan_faults players form) refl
  where
    by : (faults : List PlanFault) → plan_faults players form ≡ faults → IsReadOrFault players (form ∷ others) rest
    by (fault ∷ faults) is =
        let found = some_first fault faults in
        inr (found.0.kind, found.0.at, subst (λ all. IsFirstOf all found.0) (sym is) found.1)
    by [] none =
        let made = some_plan form players some few none in
        inl (made.0, record { faultless = none; stands = made.1; within = made.2; seats = made.3 })

-- the lists are accepted, or they have a fault
abbrev pub IsPlanOrFault : List ℕ → ℕ → List Tree → ℕ → Type 0
IsPlanOrFault source players others rest =
    HasPlan source players others rest ⊎ ((kind : PlanKind) × (at : ℕ) × HasPlanFault source players others rest kind at)

pub plan_or_fault : (source : List ℕ) (players : ℕ) (others : List Tree) (rest : ℕ) → 1 ≤ players → players ≤ 8 → IsPlanOrFault source players others rest
plan_or_fault source players others rest some few = by (read_or_fault players others rest some few) (cases_eq rest (length source))
  where
    by : IsReadOrFault players others rest → (rest ≡ length source) ⊎ (rest ≢ length source) → IsPlanOrFault source players others rest
    by (inl plan) (inl ends) = inl (plan.0, (plan.1, ends))
    by (inl plan) (inr more) = inr (Rest, rest, inr (plan.0, plan.1, more, refl, refl))
    by (inr fault) ends = inr (fault.0, fault.1, inl fault.2)

-- the lists behind the first of these forms begin with the second
second_is : (forms : List Form) (plan : Form) (form : Tree) (others : List Tree) → 1 < length forms → plan ≡ get_or forms 1 plan
    → trees_of forms ≡ form ∷ others → (more : List Tree) × (others ≡ tree_of plan ∷ more)
second_is [] plan form others two item same = absurd (omega (arith, two))
second_is (x ∷ []) plan form others two item same = absurd (omega (arith, two))
second_is (x ∷ y ∷ forms) plan form others two item same =
    let listed : tree_of y ∷ trees_of forms ≡ others = cc in
    (trees_of forms, sym listed ∙ ap (λ f. tree_of f ∷ trees_of forms) (sym item))

pub others_are : (list forms : List Form) (plan : Form) (form : Tree) (others : List Tree) → list ≡ forms → 1 < length list
    → plan ≡ get_or list 1 plan → trees_of forms ≡ form ∷ others → (more : List Tree) × (others ≡ tree_of plan ∷ more)
others_are list forms plan form others is two item same =
    second_is list plan form others two item (ap trees_of is ∙ same)

-- a fault of the plan as it is read is its first
pub faulty_so : (source : List ℕ) (players : ℕ) (lists : List Tree) (rest : ℕ) (fail : PlanFail)
    → IfPlanFault fail (λ fault. IsFaultyBehind players lists rest fault.kind fault.at)
    → IfPlanFault fail (λ fault. IsPlanFaulty source players lists rest fault.kind fault.at)
faulty_so source players lists rest fails.Memory is = tt
faulty_so source players lists rest (fails.Fault fault) is = λ form others same. inl (is form others same)
