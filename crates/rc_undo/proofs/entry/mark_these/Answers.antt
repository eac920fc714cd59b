use Rattle.std.proofs.Common.{arith}
use Rattle.rc_undo.proofs.OrderLemmas.{all_done}
use Rattle.rc_undo.proofs.entry.mark_these.Goals as goal

pub returns : goal.returns
returns c =
    all_done c.args.table.now c.loop-at.table c.args.ids.now c.args.marks.now c.loop-at.at c.loop-at.invariant.0 c.loop-at.invariant.2
    (omega (arith, c.loop-at-test.false))
