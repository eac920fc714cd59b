use Rattle.rc_play_spec.proofs.NoFaults.{none_at_all, none_but_seats}
use Rattle.rc_play_spec.proofs.plan_laws.plans_have_no_faults.Goals as goal

pub returns-clause-none : goal.returns-clause-none
returns-clause-none c = none_at_all

pub returns-clause-seats : goal.returns-clause-seats
returns-clause-seats c = none_but_seats
