use Rattle.rc_play_spec.proofs.InOrder.{first_is_first}
use Rattle.rc_play_spec.proofs.plan_laws.faults_are_in_order.Goals as goal

pub returns : goal.returns
returns c = first_is_first
