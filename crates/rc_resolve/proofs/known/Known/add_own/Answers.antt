use Rattle.std.proofs.Common.{arith}
use Rattle.rc_resolve.proofs.Own.{own_other}
use Rattle.rc_resolve.proofs.known.Known.add_own.Goals as goal

pub returns-in_default : goal.returns-in_default
returns-in_default c = own_other c.args.self.now c.args.parts.now (λ three. grind arith) (λ four. grind arith)

pub returns-in_default-2 : goal.returns-in_default-2
returns-in_default-2 c = own_other c.args.self.now c.args.parts.now (λ three. grind arith) (λ four. grind arith)
