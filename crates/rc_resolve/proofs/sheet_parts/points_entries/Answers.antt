use Rattle.std.proofs.Common.{arith}
use Rattle.rc_form.specs.Form.{tree_of}
use Rattle.rc_resolve.proofs.Lengths.{entries_other}
use Rattle.rc_resolve.proofs.sheet_parts.points_entries.Goals as goal

pub returns-in_default : goal.returns-in_default
returns-in_default c =
    entries_other c.parts_of.result.now (tree_of c.args.line.now) c.parts_of.ensures (λ long. grind arith)
