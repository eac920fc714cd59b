use Rattle.std.proofs.Common.{arith, refl}
use Rattle.rand_chacha.specs.Block.{column_round}
use Rattle.rc_draw.proofs.rounds.column_round.Goals as goal

pub returns : goal.returns
unfolding column_round
returns c =
    rw (
      ← c.quarter_rounds.ensures 0 (omega arith),
      ← c.quarter_rounds.ensures 1 (omega arith),
      ← c.quarter_rounds.ensures 2 (omega arith),
      ← c.quarter_rounds.ensures 3 (omega arith),
    ) refl
