use Rattle.rc_cache.proofs.DistinctLemmas.{replay_fits}
use Rattle.rc_cache.proofs.laws.a_legal_replay_is_within_its_room.Goals as goal

pub returns : goal.returns
returns c = replay_fits
