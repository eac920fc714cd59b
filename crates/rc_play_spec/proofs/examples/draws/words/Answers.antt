use Rattle.std.proofs.Common.{refl}
use Rattle.rand_core.specs.Steps.{u32_at}
use Rattle.rand_chacha.specs.Block.{quarter_round, column_round, diagonal_round, double_rounds, block_word}
use Rattle.rc_play_spec.proofs.examples.draws.words.Goals as goal

pub returns-clause-first : goal.returns-clause-first
unfolding u32_at block_word double_rounds diagonal_round quarter_round column_round
returns-clause-first c = refl

pub returns-clause-pick : goal.returns-clause-pick
unfolding u32_at block_word double_rounds diagonal_round quarter_round column_round
returns-clause-pick c = refl

pub returns-clause-two : goal.returns-clause-two
unfolding u32_at block_word double_rounds diagonal_round quarter_round column_round
returns-clause-two c = refl
