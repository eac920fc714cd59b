use Rattle.std.proofs.Common.{◌≡◌, ℕ, [], length, All, Result, Ok, Err, IfOk, sym, subst}
use Rattle.std.proofs.lemmas.List.Elements.{All-get_or}
use Rattle.std.proofs.lemmas.Result.{IfOk-weaker}
use Rattle.rc_base.specs.Placed.{IsPlaced}
use Rattle.rc_base.specs.Tree.{Tree}
use Rattle.rc_form.specs.declared.form.Form.{Form}
use Rattle.rc_form.specs.Form.{tree_of}
use Rattle.rc_play_spec.specs.Plan.{Plan}
use Rattle.rc_play_spec.specs.Faults.{plan_faults}
use Rattle.rc_play_spec.specs.Limits.{IsWithinLimits}
use Rattle.rc_play_spec.specs.PlanStands.{PlanStands}
use Rattle.rc_rules.specs.Plan.{plan_seen}
use Rattle.rc_house.specs.AcceptedPlan.{IsPlanOf, IsPlanRead}
use Rattle.rc_house.proofs.PlanLaws.{others_are}
use Rattle.rc_house.proofs.planning.plan_behind.Goals as goal

-- what was read is the plan of the form
is_plan : {X E : Type 0} (view : X → Plan) (read : Result X E) (players : ℕ) (form : Tree)
    → IfOk read (λ _. plan_faults players form ≡ []) → IfOk read (λ plan. PlanStands (view plan) form)
    → IfOk read (λ plan. IsWithinLimits (view plan)) → IfOk read (λ plan. length (view plan).strategies ≡ players)
    → IfOk read (λ plan. IsPlanOf players form (view plan))
is_plan view (Ok plan) players form fine stands within seats = record { faultless = fine; stands = stands; within = within; seats = seats }
is_plan view (Err fail) players form fine stands within seats = tt

pub returns-clause-behind : goal.returns-clause-behind
returns-clause-behind c =
    let forms = c.args.forms.now in
    let item = c.in-Some.ensures.lookup in
    let read = c.plan_of.ensures in
    let form = tree_of c.in-Some.form.now in
    IfOk-weaker c.plan_of.result (λ plan. IsPlanOf c.args.players form (plan_seen plan)) _
    (λ plan is first others same.
    let behind = others_are c.deref.result.now forms.list.items c.in-Some.form.now first others c.deref.ensures.value item.3.0 item.1 same in
    subst (λ others. IsPlanRead c.args.players others (plan_seen plan)) (sym behind.1) is)
    (is_plan plan_seen c.plan_of.result c.args.players form read.fine read.stands read.within read.seats)

pub plan_of-requires-clause-placed : goal.plan_of-requires-clause-placed
plan_of-requires-clause-placed c =
    let item = c.in-Some.ensures.lookup in
    let list = c.deref.result.now in
    let Placed = λ (form : Form). (size : ℕ) × IsPlaced size (tree_of form) in
    let placed : All Placed list = subst (All Placed) (sym c.deref.ensures.value) c.requires.placed in
    subst Placed (sym item.1) (All-get_or Placed list 1 c.in-Some.form.now item.3.0 placed)
