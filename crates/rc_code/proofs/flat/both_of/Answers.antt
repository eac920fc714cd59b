use Rattle.std.proofs.Common.{arith}
use Rattle.rc_code.proofs.FlatLemmas.{not_two}
use Rattle.rc_code.proofs.flat.both_of.Goals as goal

pub returns-then-len-ne2-clause-found : goal.returns-then-len-ne2-clause-found
returns-then-len-ne2-clause-found c = not_two c.args.tests.now.items (λ two. c.if-len-ne2.true (omega (arith, two, c.len.ensures)))
