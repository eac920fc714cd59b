use Rattle.std.proofs.Common.{ap, subst, ◌∙◌}
use Rattle.rc_form.specs.Form.{trees_of}
use Rattle.rc_rules.specs.Plan.{plan_seen}
use Rattle.rc_house.specs.AcceptedPlan.{IsPlanned, IsPlanFaulty}
use Rattle.rc_plan.specs.Reads.{IfPlanFault}
use Rattle.rc_house.proofs.SourceAnswers.{failed_answer}
use Rattle.rc_house.proofs.PlayedLemmas.{game_is}
use Rattle.rc_house.proofs.answer.prepare_play.Goals as goal

pub returns-in-Ok : goal.returns-in-Ok
returns-in-Ok c = λ options.
    let forms = c.args.forms.now in
    let planned =
    subst (λ sheet. IsPlanned c.args.source.now sheet.players (trees_of forms.list.items) forms.rest (plan_seen c.in-Ok.plan)) c.sheet.ensures.same c.in-Ok.ensures.planned in (
      record { within = c.in-Ok.ensures.limits; seats = c.in-Ok.ensures.seats ∙ ap (λ sheet. sheet.players) c.sheet.ensures.same },
      game_is options c.args.source.now (trees_of forms.list.items) forms.rest c.args.checked (plan_seen c.in-Ok.plan) c.requires.read c.requires.accepted planned,
    )

pub returns-in_ok-plan_failed-in-Err : goal.returns-in_ok-plan_failed-in-Err
returns-in_ok-plan_failed-in-Err c = λ options.
    let forms = c.args.forms.now in
    let source = c.args.source.now in
    let faulty =
    subst (λ sheet. IfPlanFault c.in-Err.fail (λ fault. IsPlanFaulty source sheet.players (trees_of forms.list.items) forms.rest fault.kind fault.at))
    c.sheet.ensures.same c.in-Err.ensures.fault in
    failed_answer options source (trees_of forms.list.items) forms.rest c.args.checked c.in-Err.fail c.in_ok-plan_failed-in-Err.field-0
    c.requires.read c.requires.accepted faulty c.in_ok-plan_failed-in-Err.ensures
