use Rattle.std.proofs.Common.{arith}
use Rattle.std.proofs.lemmas.Int.{ints, clamps}
use Rattle.rc_value.proofs.arithmetic.nearest.Goals as goal

pub returns : goal.returns
returns c = omega (arith, ints, clamps, c.clamp.ensures.value)
