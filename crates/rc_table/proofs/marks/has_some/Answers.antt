use Rattle.std.proofs.Common.{arith}
use Rattle.rc_table.proofs.MarkBytes.{all_zero}
use Rattle.rc_table.proofs.marks.has_some.Goals as goal

pub returns : goal.returns
returns c = λ e. all_zero c.args.marks.now (λ k less. c.loop-at.invariant k (omega (arith, less, c.loop-at-test.false)))
