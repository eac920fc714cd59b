use Rattle.rc_play_spec.proofs.StopLemmas.{step_keeps, steps_less}
use Rattle.rc_play_spec.proofs.laws.steps.steps_keep_stops.Goals as goal

pub returns-clause-keeps : goal.returns-clause-keeps
returns-clause-keeps c = λ about dealing k k2 config config2 is. step_keeps about dealing k k2 config config2 is

pub returns-clause-less : goal.returns-clause-less
returns-clause-less c = λ about dealing k k2 config config2 is. steps_less about dealing k k2 config config2 is
