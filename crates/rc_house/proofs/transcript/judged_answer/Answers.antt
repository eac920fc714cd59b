use Rattle.std.proofs.Common.{IfOk, sym, subst, ◌∙◌}
use Rattle.rc_play_spec.specs.About.{about_of}
use Rattle.rc_rules.specs.Plan.{plan_seen}
use Rattle.rc_house.specs.Answer.{IsAnswerIn}
use Rattle.rc_house.proofs.transcript.judged_answer.Goals as goal

pub returns-then-tells_bounds : goal.returns-then-tells_bounds
returns-then-tells_bounds c =
    let about = about_of c.args.checked c.args.plan.now.turns in
    let plan = plan_seen c.args.plan.now in
    subst (λ named. IfOk c.named_answer.result (IsAnswerIn c.args.asked named about plan c.args.bytes.now))
    (sym c.if-tells_bounds.true ∙ c.tells_bounds.ensures) c.named_answer.ensures

pub returns-else-tells_bounds : goal.returns-else-tells_bounds
returns-else-tells_bounds c =
    let about = about_of c.args.checked c.args.plan.now.turns in
    let plan = plan_seen c.args.plan.now in
    subst (λ named. IfOk c.plain_answer.result (IsAnswerIn c.args.asked named about plan c.args.bytes.now))
    (sym c.if-tells_bounds.false ∙ c.tells_bounds.ensures) c.plain_answer.ensures
