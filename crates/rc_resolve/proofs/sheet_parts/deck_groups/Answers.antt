use Rattle.std.proofs.Common.{arith}
use Rattle.rc_form.specs.Form.{tree_of}
use Rattle.rc_resolve.proofs.Lengths.{groups_other}
use Rattle.rc_resolve.proofs.sheet_parts.deck_groups.Goals.{in_default-via-then-parts_of-lt4, in_default-via-else-parts_of-lt4+else-this-lt5}
use Rattle.rc_resolve.proofs.sheet_parts.deck_groups.Goals as goal

pub returns-in_default : goal.returns-in_default
returns-in_default c =
    groups_other c.parts_of.result.now (tree_of c.args.line.now) c.parts_of.ensures (λ long.
    elim c.in_default.branch [
      | in_default-via-then-parts_of-lt4 w ↦ grind arith
      | in_default-via-else-parts_of-lt4+else-this-lt5 w ↦ grind arith
    ])
