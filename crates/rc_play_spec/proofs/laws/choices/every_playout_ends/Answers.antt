use Rattle.rc_play_spec.proofs.PlayoutLemmas.{playout_ends}
use Rattle.rc_play_spec.proofs.laws.choices.every_playout_ends.Goals as goal

pub returns : goal.returns
returns c = playout_ends
