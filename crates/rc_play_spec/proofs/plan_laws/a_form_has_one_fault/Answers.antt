use Rattle.std.proofs.Common.{◌≡◌, List, [], ◌∷◌, refl}
use Rattle.rc_play_spec.specs.Faults.{plan_faults}
use Rattle.rc_play_spec.specs.PlanFault.{IsFirstOf}
use Rattle.rc_play_spec.specs.declared.plan_fault.PlanFault.{PlanFault}
use Rattle.rc_play_spec.proofs.OneFault.{one_first, some_first}
use Rattle.rc_play_spec.proofs.plan_laws.a_form_has_one_fault.Goals as goal

first_of_some : (faults : List PlanFault) → (faults ≡ [] → ⊥) → (fault : PlanFault) × IsFirstOf faults fault
first_of_some [] some = absurd (some refl)
first_of_some (fault ∷ faults) some = some_first fault faults

pub returns-clause-some : goal.returns-clause-some
returns-clause-some c form players some = first_of_some (plan_faults players form) some

pub returns-clause-one : goal.returns-clause-one
returns-clause-one c form players at other_at kind other first second =
    one_first (plan_faults players form) (record { kind = kind; at = at }) (record { kind = other; at = other_at }) first second
