use Rattle.std.proofs.Common.{◌≡◌, arith}
use Rattle.rc_draw.proofs.pick_by.Goals as goal

pub returns-then-n-eq1-clause-value : goal.returns-then-n-eq1-clause-value
returns-then-n-eq1-clause-value c =
    let is : c.args.n ≡ 1 = c.if-n-eq1.true in
    let below = c.keys_pick_and_permute.ensures.picks c.args.key.now c.args.n c.requires in
    omega (arith, is, below)
