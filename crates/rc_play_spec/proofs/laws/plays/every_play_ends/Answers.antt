use Rattle.rc_play_spec.proofs.PlayLemmas.{play_ends}
use Rattle.rc_play_spec.proofs.laws.plays.every_play_ends.Goals as goal

pub returns : goal.returns
returns c = λ about dealing chooser k. play_ends about dealing chooser k
