-- What is read, said of another form and its faults.
use Rattle.std.proofs.Common.{◌≡◌, ℕ, List, [], ◌∷◌, ◌++◌, Result, Ok, Err, IfErr, IsErrAnd, Some, sym, ap, subst, ◌∙◌}
use Rattle.std.proofs.lemmas.Result.{err_from_is_err_and}
use Rattle.rc_play_spec.specs.Faults.{fault}
use Rattle.rc_play_spec.specs.PlanFault.{first}
use Rattle.rc_play_spec.specs.declared.plan_fault.PlanKind.TheVariants.{Shape}
use Rattle.rc_play_spec.specs.declared.plan_fault.PlanFault.{PlanFault}
use Rattle.rc_plan.specs.declared.fail.PlanFail.{PlanFail}
use Rattle.rc_plan.specs.declared.fail.PlanFail.TheVariants.{Fault, Memory}
use Rattle.rc_plan.specs.Reads.{Reads, IfPlanFault}

-- a fault of shape that is told
pub shape_told : (fail : PlanFail) (faults : List PlanFault) (at : ℕ) → fail ≡ Fault (record { kind = Shape; at = at })
    → faults ≡ fault Shape at → IfPlanFault fail (λ fault. first faults ≡ Some fault)
shape_told fail faults at is only =
    subst (λ fail. IfPlanFault fail (λ fault. first faults ≡ Some fault)) (sym is) (ap first only)

-- the same faults, of a fail
pub fail_as : (fail : PlanFail) (faults others : List PlanFault) → others ≡ faults → IfPlanFault fail (λ fault. first faults ≡ Some fault)
    → IfPlanFault fail (λ fault. first others ≡ Some fault)
fail_as fail faults others same told = subst (λ faults. IfPlanFault fail (λ fault. first faults ≡ Some fault)) (sym same) told

pub reads_as : {A : Type 0} (r : Result A PlanFail) (Holds Other : A → Type 0) (faults others : List PlanFault)
    → ((a : A) → Holds a → Other a) → others ≡ faults → Reads r Holds faults → Reads r Other others
reads_as (Ok a) Holds Other faults others then same reads = (then a reads.0, same ∙ reads.1)
reads_as (Err fail) Holds Other faults others then same reads = fail_as fail faults others same reads

-- a fail that a `?` hands on
pub handed_on : {A : Type 0} (r : Result A PlanFail) (fail : PlanFail) (P : PlanFail → Type 0) → IsErrAnd r (λ other. other ≡ fail) → P fail → IfErr r P
handed_on r fail P is told =
    let passed = err_from_is_err_and r is in subst (λ r. IfErr r P) (sym passed.1) (subst P (sym passed.2) told)

pub reads_handed_on : {A : Type 0} (r : Result A PlanFail) (fail : PlanFail) (Holds : A → Type 0) (faults : List PlanFault)
    → IsErrAnd r (λ other. other ≡ fail) → IfPlanFault fail (λ fault. first faults ≡ Some fault) → Reads r Holds faults
reads_handed_on r fail Holds faults is told =
    let passed = err_from_is_err_and r is in
    subst (λ r. Reads r Holds faults) (sym passed.1)
    (subst (λ fail. IfPlanFault fail (λ fault. first faults ≡ Some fault)) (sym passed.2) told)

-- the first fault of the first of two lists is that of both, and behind no fault the first of the second is
first_before : (fail : PlanFail) (xs ys : List PlanFault) → IfPlanFault fail (λ fault. first xs ≡ Some fault)
    → IfPlanFault fail (λ fault. first (xs ++ ys) ≡ Some fault)
first_before Memory xs ys told = tt
first_before (Fault fault) [] ys told = absurd cc
first_before (Fault fault) (x ∷ xs) ys told = told

pub second_part : (fail : PlanFail) (xs ys zs : List PlanFault) → xs ≡ [] → IfPlanFault fail (λ fault. first ys ≡ Some fault)
    → IfPlanFault fail (λ fault. first (xs ++ (ys ++ zs)) ≡ Some fault)
second_part fail xs ys zs none told =
    fail_as fail (ys ++ zs) _ (ap (λ xs. xs ++ (ys ++ zs)) none) (first_before fail ys zs told)
