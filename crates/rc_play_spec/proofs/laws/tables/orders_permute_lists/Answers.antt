use Rattle.rc_play_spec.proofs.SoundLemmas.{taken_permutes}
use Rattle.rc_play_spec.proofs.laws.tables.orders_permute_lists.Goals as goal

pub returns : goal.returns
returns c = taken_permutes
