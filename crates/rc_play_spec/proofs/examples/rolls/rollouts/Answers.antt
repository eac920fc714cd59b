use Rattle.std.proofs.Common.{refl}
use Rattle.rand_core.specs.Steps.{u32_at}
use Rattle.rand_chacha.specs.Block.{quarter_round, column_round, diagonal_round, double_rounds, block_word}
use Rattle.rc_play_spec.proofs.examples.rolls.rollouts.Goals as goal

pub returns-clause-one : goal.returns-clause-one
unfolding u32_at block_word double_rounds diagonal_round quarter_round column_round
returns-clause-one c = refl

pub returns-clause-choice : goal.returns-clause-choice
unfolding u32_at block_word double_rounds diagonal_round quarter_round column_round
returns-clause-choice c = refl
