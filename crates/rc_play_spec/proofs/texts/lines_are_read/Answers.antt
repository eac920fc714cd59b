use Rattle.rc_play_spec.proofs.LineLemmas.{line-only, line-again}
use Rattle.rc_play_spec.proofs.texts.lines_are_read.Goals as goal

pub returns-clause-again : goal.returns-clause-again
returns-clause-again c = λ named m is. line-again named m is

pub returns-clause-only : goal.returns-clause-only
returns-clause-only c = λ named bytes m e. line-only named bytes m e
