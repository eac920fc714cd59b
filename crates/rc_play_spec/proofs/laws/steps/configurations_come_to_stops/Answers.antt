use Rattle.rc_play_spec.proofs.StopLemmas.{comes_to_stop}
use Rattle.rc_play_spec.proofs.laws.steps.configurations_come_to_stops.Goals as goal

pub returns : goal.returns
returns c = λ about dealing k config. comes_to_stop about dealing k config
