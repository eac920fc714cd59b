use Rattle.std.proofs.Common.{map, sym, ap, ◌∙◌, arith}
use Rattle.std.specs.Prelude.{codes}
use Rattle.rc_base.specs.Tree.{start_of}
use Rattle.rc_form.specs.Form.{tree_of, trees_of, packed}
use Rattle.rc_sheet_spec.specs.Rows.{Some}
use Rattle.rc_play_spec.specs.Faults.{fault, some, strategy}
use Rattle.rc_play_spec.specs.PlanStands.{InTurn}
use Rattle.rc_play_spec.specs.declared.plan_fault.PlanKind.TheVariants.{Shape}
use Rattle.rc_rules.specs.Plan.{strategy_seen}
use Rattle.rc_plan.specs.Reads.{IsStrategy}
use Rattle.rc_plan.proofs.Headed.{headed_is, row_is, unheaded}
use Rattle.rc_plan.proofs.Lengths.{some_parts, some_counted}
use Rattle.rc_plan.proofs.Told.{shape_told, reads_as}
use Rattle.rc_plan.proofs.strategies.read_seats.Goals as goal

pub returns-in_default : goal.returns-in_default
returns-in_default c =
    shape_told _ _ _ c.shape.ensures
    (unheaded (codes "seats") (tree_of c.args.form.now) (some strategy) c.in_default.ensures.none ∙ ap (fault Shape) (sym c.start_of.ensures))

pub returns : goal.returns
returns c =
    let form = tree_of c.args.form.now in
    let forms = c.in-Some.parts.now in
    let parts = packed (trees_of forms) in
    let at = c.in-Some.ensures.found in
    reads_as c.read_strategies.result (λ strategies. InTurn IsStrategy (map strategy_seen strategies.items) parts) _ _ _
    (λ strategies stand. row_is "seats" parts form (Some (InTurn IsStrategy (map strategy_seen strategies.items))) at (some_counted forms (λ none. grind arith), stand))
    (headed_is (codes "seats") parts form (some strategy) at ∙ some_parts strategy (start_of form) forms (λ none. grind arith))
    c.read_strategies.ensures
