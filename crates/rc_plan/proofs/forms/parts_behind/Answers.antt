use Rattle.std.proofs.Common.{sym, ap, ◌∙◌}
use Rattle.rc_base.specs.Tree.{list}
use Rattle.rc_form.specs.Form.{tree_of, trees_of, packed}
use Rattle.rc_form.proofs.FormLemmas.{tree_of_list}
use Rattle.rc_plan.proofs.Headed.{is_behind}
use Rattle.rc_plan.proofs.forms.parts_behind.Goals as goal

pub returns-then-is_word-clause-found : goal.returns-then-is_word-clause-found
returns-then-is_word-clause-found c =
    let from = c.in-List.span.from in
    let to = c.in-List.span.to in
    let items = sym c.as_slice.ensures.trees ∙ ap trees_of c.in_ok-head.ensures.cases.0 in
    let is = tree_of_list _ _ _ c.in-List.is ∙ ap (λ trees. list (packed trees) from to) items in
    is_behind c.args.text.now (tree_of c.in_ok-head.head.now) (packed (trees_of c.in_ok-head.parts.now)) (tree_of c.args.form.now) from to is
    (sym c.if-is_word.ensures)
