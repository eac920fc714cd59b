use Rattle.rc_play_spec.proofs.OnePlan.{one_plan}
use Rattle.rc_play_spec.proofs.plan_laws.a_form_has_one_plan.Goals as goal

pub returns : goal.returns
returns c = one_plan
