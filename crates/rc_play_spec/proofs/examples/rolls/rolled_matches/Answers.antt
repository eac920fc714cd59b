use Rattle.std.proofs.Common.{refl}
use Rattle.rand_core.specs.Steps.{u32_at}
use Rattle.std.specs.Fmt.{digits}
use Rattle.rand_chacha.specs.Block.{quarter_round, column_round, diagonal_round, double_rounds, block_word}
use Rattle.rc_play_spec.proofs.examples.rolls.rolled_matches.Goals as goal

pub returns-clause-items : goal.returns-clause-items
unfolding u32_at block_word double_rounds diagonal_round quarter_round column_round
returns-clause-items c = refl

pub returns-clause-text : goal.returns-clause-text
unfolding u32_at block_word double_rounds diagonal_round quarter_round column_round digits
returns-clause-text c = refl
