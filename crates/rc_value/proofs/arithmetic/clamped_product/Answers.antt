use Rattle.std.proofs.Common.{◌*ℤ◌, arith}
use Rattle.std.proofs.lemmas.Int.{to_z-of_z}
use Rattle.rc_value.proofs.Lists.{saturated}
use Rattle.rc_value.proofs.arithmetic.clamped_product.Goals as goal

pub returns : goal.returns
returns c = let e = saturated (c.args.a *ℤ c.args.b) in grind (arith, to_z-of_z, e)
