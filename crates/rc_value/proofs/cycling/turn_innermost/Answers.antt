use Rattle.std.proofs.Common.{arith}
use Rattle.rc_value.proofs.Innermost.{turned_last}
use Rattle.rc_value.proofs.cycling.turn_innermost.Goals as goal

pub returns-then-open-gt0 : goal.returns-then-open-gt0
returns-then-open-gt0 c = turned_last c.args.frames.now _ _ (omega (arith, c.if-open-gt0.true))
