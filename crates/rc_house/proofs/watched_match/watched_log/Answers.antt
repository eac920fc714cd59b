use Rattle.std.proofs.Common.{◌≡◌, IfOk, subst}
use Rattle.rc_rules.specs.Plan.{plan_seen}
use Rattle.rc_log_spec.specs.Views.{log_of}
use Rattle.rc_house.proofs.watched_match.watched_log.Goals as goal

pub returns : goal.returns
returns c =
    subst (λ about. IfOk c.watched_alone.result (λ bytes. bytes.items ≡ log_of about (plan_seen c.args.plan) c.args.number c.args.seat)) c.in_ok-about.ensures
    (subst (λ plan. IfOk c.watched_alone.result (λ bytes. bytes.items ≡ log_of c.in_ok-about.about.value (plan_seen plan) c.args.number c.args.seat)) c.in_ok-plan.ensures.ok
    c.watched_alone.ensures)
