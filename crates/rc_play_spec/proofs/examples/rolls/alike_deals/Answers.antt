use Rattle.std.proofs.Common.{refl}
use Rattle.rand_core.specs.Steps.{u32_at}
use Rattle.rand_chacha.specs.Block.{quarter_round, column_round, diagonal_round, double_rounds, block_word}
use Rattle.rc_play_spec.proofs.examples.rolls.alike_deals.Goals as goal

pub returns-clause-first : goal.returns-clause-first
unfolding u32_at block_word double_rounds diagonal_round quarter_round column_round
returns-clause-first c = refl

pub returns-clause-second : goal.returns-clause-second
unfolding u32_at block_word double_rounds diagonal_round quarter_round column_round
returns-clause-second c = refl

pub returns-clause-end : goal.returns-clause-end
unfolding u32_at block_word double_rounds diagonal_round quarter_round column_round
returns-clause-end c = refl
