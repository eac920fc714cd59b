use Rattle.rc_play_spec.proofs.SomePlan.{some_plan}
use Rattle.rc_play_spec.proofs.plan_laws.a_faultless_form_has_a_plan.Goals as goal

pub returns : goal.returns
returns c = some_plan
