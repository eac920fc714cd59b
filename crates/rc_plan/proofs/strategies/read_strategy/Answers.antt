use Rattle.std.proofs.Common.{◌≤◌, sym, ap, ◌∙◌}
use Rattle.rc_form.specs.Form.{tree_of, trees_of, packed}
use Rattle.rc_play_spec.specs.Faults.{fault}
use Rattle.rc_play_spec.specs.PlanStands.{Number, InTurn}
use Rattle.rc_play_spec.specs.declared.plan_fault.PlanKind.TheVariants.{Shape}
use Rattle.rc_plan.specs.Reads.{IsNumberBetween}
use Rattle.rc_plan.proofs.Both.{both_in_turn}
use Rattle.rc_plan.proofs.Headed.{row_is, strategy_script, no_strategy}
use Rattle.rc_plan.proofs.Told.{shape_told}
use Rattle.rc_plan.proofs.strategies.read_strategy.Goals as goal

pub returns-in-Some : goal.returns-in-Some
returns-in-Some c =
    let form = tree_of c.args.form.now in
    let parts = packed (trees_of c.in-Some.parts.now) in
    let numbers = c.in_ok-numbers.numbers.items in
    let at = c.in-Some.ensures.found in
    let both = both_in_turn (IsNumberBetween 0 65535) Number (λ n. n ≤ 65535) (λ n tree both. (both.0, both.1.1)) numbers parts c.in_ok-numbers.ensures.0 in
    ((row_is "script" parts form (InTurn Number numbers) at both.0, both.1), strategy_script parts form at ∙ c.in_ok-numbers.ensures.1)

pub returns : goal.returns
returns c =
    shape_told _ _ _ c.shape.ensures
    (no_strategy (tree_of c.args.form.now) c.in_default.ensures.none c.in_default-parts_behind.ensures.none c.in_default-parts_behind-2.ensures.none
    ∙ ap (fault Shape) (sym c.start_of-2.ensures))
