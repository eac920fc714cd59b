use Rattle.std.proofs.Common.{None, Some, ◌≡◌, slice_get, rules}
use Rattle.rc_form.specs.Form.{tree_of, trees_of}
use Rattle.rc_house.proofs.SourceAnswers.{first_tree, no_tree, first_accepted, missing_answer, refusal_is, refused_answer}
use Rattle.rc_house.proofs.answer.prepare_forms.Goals as goal

pub returns-in_default : goal.returns-in_default
returns-in_default c =
    let forms = c.args.forms.now in
    let none : None ≡ slice_get forms.list.items 0 = search rules in
    refusal_is c.args.task c.args.source.now _ c.answer_without_sheet.result c.answer_without_sheet.ensures
    (missing_answer c.args.task c.args.source.now (trees_of forms.list.items) forms.rest (no_tree forms.list.items none)
    c.requires.read)

pub prepare_sheet-requires-clause-accepted : goal.prepare_sheet-requires-clause-accepted
prepare_sheet-requires-clause-accepted c =
    let forms = c.args.forms.now in
    let item : Some c.in-Some.form.now ≡ slice_get forms.list.items 0 = search rules in
    let listed = first_tree forms.list.items c.in-Some.form.now item in
    first_accepted (trees_of forms.list.items) (tree_of c.in-Some.form.now) listed.0 c.in-Ok.checked listed.1 c.in-Ok.ensures.accepted

pub returns-in-Err-Fault : goal.returns-in-Err-Fault
returns-in-Err-Fault c =
    let forms = c.args.forms.now in
    let item : Some c.in-Some.form.now ≡ slice_get forms.list.items 0 = search rules in
    let listed = first_tree forms.list.items c.in-Some.form.now item in
    let first = rw c.in-Err-Fault.field-0-is at c.in-Err-Fault.ensures.refused in
    rw (c.in-Err-Fault.kind-is, c.in-Err-Fault.at-is)
    (refused_answer c.args.task c.args.source.now (trees_of forms.list.items) (tree_of c.in-Some.form.now) listed.0
    forms.rest _ _ listed.1 c.requires.read first)
