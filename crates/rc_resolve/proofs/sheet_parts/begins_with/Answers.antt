use Rattle.rc_form.specs.Form.{tree_of}
use Rattle.rc_resolve.proofs.Lengths.{begins_short}
use Rattle.rc_resolve.proofs.sheet_parts.begins_with.Goals as goal

pub returns-in_default : goal.returns-in_default
returns-in_default c =
    begins_short c.parts_of.result.now c.args.first c.args.second (tree_of c.args.form.now)
    c.parts_of.ensures c.in_default.len_below
