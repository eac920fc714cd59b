use Rattle.std.proofs.Common.{ap, subst, sym, ◌∙◌, ◌∷◌, []}
use Rattle.std.specs.Prelude.{codes}
use Rattle.rc_form.specs.Form.{trees_in, packed}
use Rattle.rc_form.proofs.FormLemmas.{tree_of_list}
use Rattle.rc_play_spec.specs.Faults.{match, row, any_number}
use Rattle.rc_plan.specs.Reads.{IsNotHeaded}
use Rattle.rc_plan.proofs.MatchLemmas.{match_deal}
use Rattle.rc_plan.proofs.Told.{fail_as, reads_handed_on}
use Rattle.rc_plan.proofs.matches.read_match.Goals as goal

pub returns-in_err-deal-in-List : goal.returns-in_err-deal-in-List
returns-in_err-deal-in-List c =
    let is = tree_of_list c.args.form.now c.in-List.items c.in-List.span c.in-List.is in
    let parts = packed (trees_in c.in-List.items) in
    let other = subst (IsNotHeaded (codes "from")) is c.in_default.ensures.none in
    let same = ap (match c.args.alone) is ∙ match_deal c.args.alone parts c.in-List.span.from c.in-List.span.to other in
    let fail = c.in_err-deal-in-List.field-0.0 in
    reads_handed_on c.from_residual-in_err-deal-in-List.result fail _ _ c.from_residual-in_err-deal-in-List.ensures.1
    (fail_as fail _ _ (same ∙ ap (λ trees. row (any_number ∷ any_number ∷ []) c.in-List.span.from (packed trees)) (sym
    c.as_slice.ensures.trees)) c.in_err-deal-in-List.ensures)
