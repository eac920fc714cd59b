use Rattle.std.proofs.Common.{◌≡◌}
use Rattle.rand_chacha.specs.Block.{double_rounds}
use Rattle.rc_draw.specs.Rows.{state_of}
use Rattle.rc_draw.proofs.block.last_rows.Given as goal

abbrev pub invariant-rounds : goal.invariant-rounds
invariant-rounds l = state_of l.rows ≡ double_rounds l._round (state_of l.fn.first)
