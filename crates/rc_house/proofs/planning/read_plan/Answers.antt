use Rattle.std.proofs.Common.{ℕ, length, IfErr, inr, subst, sym}
use Rattle.std.proofs.lemmas.List.Elements.{All-weaker}
use Rattle.rc_base.specs.Placed.{IsPlaced}
use Rattle.rc_form.specs.Form.{tree_of, trees_of}
use Rattle.rc_rules.specs.Plan.{plan_seen}
use Rattle.rc_plan.specs.Reads.{IfPlanFault}
use Rattle.rc_house.specs.AcceptedPlan.{IsPlanFaulty}
use Rattle.rc_house.proofs.Exits.{at_err}
use Rattle.rc_house.proofs.PlanLaws.{faulty_so}
use Rattle.rc_house.proofs.planning.read_plan.Goals as goal

pub plan_behind-requires-clause-placed : goal.plan_behind-requires-clause-placed
plan_behind-requires-clause-placed c =
    let size = length c.args.source.now in
    All-weaker (λ form. IsPlaced size (tree_of form)) (λ form. (size : ℕ) × IsPlaced size (tree_of form)) (λ form placed. (size, placed))
    c.args.forms.now.list.items c.requires.placed

pub returns-in_err-plan-clause-fault : goal.returns-in_err-plan-clause-fault
returns-in_err-plan-clause-fault c =
    let forms = c.args.forms.now in
    let Fails = λ (fail : _). IfPlanFault fail (λ fault. IsPlanFaulty c.args.source.now c.args.players (trees_of forms.list.items) forms.rest fault.kind fault.at) in
    at_err (λ r. IfErr r Fails) c.from_residual.result c.from_residual.ensures.1
    (λ fail is. subst Fails (sym is)
    (faulty_so c.args.source.now c.args.players (trees_of forms.list.items) forms.rest c.in_err-plan.field-0.0 c.in_err-plan.ensures.fault))

pub returns-in-Some-clause-fault : goal.returns-in-Some-clause-fault
returns-in-Some-clause-fault c =
    let has = c.in-Some.ensures.found in
    λ form others same. inr (plan_seen c.in_ok-plan.plan, c.in_ok-plan.ensures.behind form others same, has.0, has.1, has.2)

pub returns-in-None-clause-planned : goal.returns-in-None-clause-planned
returns-in-None-clause-planned c = λ form others same. (c.in_ok-plan.ensures.behind form others same, c.in-None.ensures.none)
