use Rattle.rc_cache.proofs.DistinctLemmas.{none_twice}
use Rattle.rc_cache.proofs.laws.no_key_is_twice_in_a_replay.Goals as goal

pub returns : goal.returns
returns c = none_twice
