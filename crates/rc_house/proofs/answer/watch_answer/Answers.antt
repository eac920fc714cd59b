use Rattle.std.proofs.Common.{ap, subst, ◌∙◌}
use Rattle.rc_form.specs.Form.{trees_of}
use Rattle.rc_rules.specs.Plan.{plan_seen}
use Rattle.rc_plan.specs.Reads.{IfPlanFault}
use Rattle.rc_house.specs.AcceptedPlan.{IsPlanned, IsPlanFaulty}
use Rattle.rc_house.proofs.SourceAnswers.{unwatched_answers, watched_answers}
use Rattle.rc_house.proofs.answer.watch_answer.Goals as goal

pub watched_answer-requires : goal.watched_answer-requires
watched_answer-requires c =
    record {
      game = record { within = c.in-Ok.ensures.limits; seats = c.in-Ok.ensures.seats ∙ ap (λ sheet. sheet.players) c.sheet.ensures.same };
    }

pub returns-in-Ok : goal.returns-in-Ok
returns-in-Ok c =
    let forms = c.args.forms.now in
    let plan = plan_seen c.in-Ok.plan in
    let planned =
    subst (λ sheet. IsPlanned c.args.source.now sheet.players (trees_of forms.list.items) forms.rest plan) c.sheet.ensures.same c.in-Ok.ensures.planned in
    watched_answers c.args.seat c.args.number c.args.source.now (trees_of forms.list.items) forms.rest c.args.checked plan c.watched_answer.result
    c.requires.read c.requires.accepted planned c.watched_answer.ensures

pub returns-in-Err : goal.returns-in-Err
returns-in-Err c =
    let forms = c.args.forms.now in
    let source = c.args.source.now in
    let faulty =
    subst (λ sheet. IfPlanFault c.in-Err.fail (λ fault. IsPlanFaulty source sheet.players (trees_of forms.list.items) forms.rest fault.kind fault.at))
    c.sheet.ensures.same c.in-Err.ensures.fault in
    unwatched_answers c.args.seat c.args.number source (trees_of forms.list.items) forms.rest c.args.checked c.in-Err.fail c.plan_failed.result
    c.requires.read c.requires.accepted faulty c.plan_failed.ensures
