use Rattle.std.proofs.Common.{arith}
use Rattle.rc_resolve.proofs.Lengths.{map_other}
use Rattle.rc_resolve.proofs.uses.map_in.Goals as goal

pub returns-in_default : goal.returns-in_default
returns-in_default c = map_other c.args.parts.now (λ long. grind arith)
