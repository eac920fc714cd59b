use Rattle.std.proofs.Common.{subst}
use Rattle.rc_base.specs.Spelled.{Spelled}
use Rattle.rc_form.specs.Form.{trees_of}
use Rattle.rc_house.proofs.SourceAnswers.{fault_answered, refusal_is}
use Rattle.rc_house.proofs.answer.prepare.Goals as goal

pub prepare_forms-requires-clause-read : goal.prepare_forms-requires-clause-read
prepare_forms-requires-clause-read c =
    let forms = c.in-Ok.forms in
    subst (λ want. Spelled c.args.source.now want (trees_of forms.list.items) forms.rest) c.wanted_lists.ensures c.in-Ok.ensures.spelled

pub returns-in-Err-Fault : goal.returns-in-Err-Fault
returns-in-Err-Fault c =
    let e = rw c.in-Err-Fault.field-0-is at c.in-Err-Fault.ensures in
    refusal_is c.args.task c.args.source.now _ c.fault_of.result c.fault_of.ensures
    (rw c.in-Err-Fault.form_fault-is (fault_answered c.args.task c.wanted_lists.result c.args.source.now _ _ c.wanted_lists.ensures e.fault))
