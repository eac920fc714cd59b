use Rattle.std.proofs.Common.{ℕ, length, IfOk, ap, ◌∙◌, subst}
use Rattle.std.proofs.lemmas.List.{take_rest}
use Rattle.rc_play_spec.specs.About.{about_of}
use Rattle.std.proofs.lemmas.List.Elements.{All-weaker}
use Rattle.rc_base.specs.Placed.{IsPlaced}
use Rattle.rc_form.specs.Form.{tree_of, trees_of}
use Rattle.rc_plan.specs.Reads.{IfPlanFault}
use Rattle.rc_rules.specs.Plan.{plan_seen}
use Rattle.rc_house.specs.AcceptedPlan.{IsBehind, IsFaultyBehind}
use Rattle.rc_house.specs.Answer.{IsJudged}
use Rattle.rc_house.proofs.SourceAnswers.{judged_answers, unread_answers}
use Rattle.rc_house.proofs.answer.transcript_answer.Goals as goal

pub plan_behind-requires-clause-placed : goal.plan_behind-requires-clause-placed
plan_behind-requires-clause-placed c =
    let size = length c.args.source.now in
    All-weaker (λ form. IsPlaced size (tree_of form)) (λ form. (size : ℕ) × IsPlaced size (tree_of form)) (λ form placed. (size, placed))
    c.args.forms.now.list.items c.requires.placed

pub judged_answer-requires-clause-seats : goal.judged_answer-requires-clause-seats
judged_answer-requires-clause-seats c = c.in-Ok.ensures.seats ∙ ap (λ sheet. sheet.players) c.sheet.ensures.same

pub returns-in-Ok : goal.returns-in-Ok
returns-in-Ok c =
    let forms = c.args.forms.now in
    let plan = plan_seen c.in-Ok.plan in
    let behind = subst (λ sheet. IsBehind sheet.players (trees_of forms.list.items) plan) c.sheet.ensures.same c.in-Ok.ensures.behind in
    judged_answers c.args.asked c.args.source.now (trees_of forms.list.items) forms.rest c.args.checked plan c.judged_answer.result
    c.requires.read c.requires.accepted behind
    (subst (λ bytes. IfOk c.judged_answer.result (IsJudged c.args.asked (about_of c.args.checked c.in-Ok.plan.turns) plan bytes))
    (take_rest c.args.source.now forms.rest) c.judged_answer.ensures)

pub returns-in-Err : goal.returns-in-Err
returns-in-Err c =
    let forms = c.args.forms.now in
    let faulty =
    subst (λ sheet. IfPlanFault c.in-Err.fail (λ fault. IsFaultyBehind sheet.players (trees_of forms.list.items) forms.rest fault.kind fault.at))
    c.sheet.ensures.same c.in-Err.ensures.fault in
    unread_answers c.args.asked c.args.source.now (trees_of forms.list.items) forms.rest c.args.checked c.in-Err.fail c.plan_failed.result
    c.requires.read c.requires.accepted faulty c.plan_failed.ensures
