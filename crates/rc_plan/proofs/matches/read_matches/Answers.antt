use Rattle.std.proofs.Common.{sym, ap, ◌∙◌, arith}
use Rattle.std.specs.Prelude.{codes}
use Rattle.rc_base.specs.Tree.{start_of}
use Rattle.rc_form.specs.Form.{tree_of, trees_of, packed}
use Rattle.rc_sheet_spec.specs.Rows.{Some}
use Rattle.rc_play_spec.specs.Faults.{fault, match_list}
use Rattle.rc_play_spec.specs.declared.plan_fault.PlanKind.TheVariants.{Shape}
use Rattle.rc_plan.specs.Matches.{AreMatchParts}
use Rattle.rc_plan.proofs.Headed.{headed_is, row_is, unheaded}
use Rattle.rc_plan.proofs.Lengths.{some_counted}
use Rattle.rc_plan.proofs.MatchLemmas.{listed_anywhere}
use Rattle.rc_plan.proofs.Told.{shape_told, reads_as}
use Rattle.rc_plan.proofs.matches.read_matches.Goals as goal

pub returns-in_default : goal.returns-in_default
returns-in_default c =
    shape_told _ _ _ c.shape.ensures
    (unheaded (codes "matches") (tree_of c.args.form.now) match_list c.in_default.ensures.none ∙ ap (fault Shape) (sym c.start_of.ensures))

pub returns-in_default-parts : goal.returns-in_default-parts
returns-in_default-parts c =
    let form = tree_of c.args.form.now in
    let forms = c.in-Some.parts.now in
    let parts = packed (trees_of forms) in
    let at = c.in-Some.ensures.found in
    reads_as c.read_several.result (λ matches. AreMatchParts matches parts) _ _ _
    (λ matches stand. row_is "matches" parts form (Some (AreMatchParts matches)) at (some_counted forms (λ none. grind arith), stand))
    (headed_is (codes "matches") parts form match_list at ∙ listed_anywhere (start_of form) 0 forms (λ none. grind arith))
    c.read_several.ensures
