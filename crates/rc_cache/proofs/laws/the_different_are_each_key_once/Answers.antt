use Rattle.rc_cache.proofs.DistinctLemmas.{each_once}
use Rattle.rc_cache.proofs.laws.the_different_are_each_key_once.Goals as goal

pub returns : goal.returns
returns c = each_once
