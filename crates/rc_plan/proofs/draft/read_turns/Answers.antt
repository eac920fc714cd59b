use Rattle.std.proofs.Common.{◌∷◌, [], sym, ap, ◌∙◌, arith}
use Rattle.std.specs.Prelude.{codes}
use Rattle.rc_base.specs.Tree.{start_of}
use Rattle.rc_form.specs.Form.{tree_of, trees_of, packed}
use Rattle.rc_play_spec.specs.Faults.{fault, row, any_number}
use Rattle.rc_play_spec.specs.declared.plan_fault.PlanKind.TheVariants.{Shape}
use Rattle.rc_plan.proofs.Headed.{headed_is, unheaded}
use Rattle.rc_plan.proofs.Lengths.{other_length}
use Rattle.rc_plan.proofs.Told.{shape_told}
use Rattle.rc_plan.proofs.draft.read_turns.Goals as goal

pub returns-in_default : goal.returns-in_default
returns-in_default c =
    shape_told _ _ _ c.shape.ensures
    (unheaded (codes "turns") (tree_of c.args.form.now) (row (any_number ∷ [])) c.in_default.ensures.none ∙ ap (fault Shape) (sym c.start_of.ensures))

pub returns-in_default-parts : goal.returns-in_default-parts
returns-in_default-parts c =
    let form = tree_of c.args.form.now in
    let forms = c.in-Some.parts.now in
    shape_told _ _ _ c.shape-in_default-parts.ensures
    (headed_is (codes "turns") (packed (trees_of forms)) form (row (any_number ∷ [])) c.in-Some.ensures.found
    ∙ other_length (any_number ∷ []) (start_of form) forms (λ long. grind arith)
    ∙ ap (fault Shape) (sym c.start_of-in_default-parts.ensures))
