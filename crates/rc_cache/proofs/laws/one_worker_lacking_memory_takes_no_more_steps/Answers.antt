use Rattle.rc_cache.proofs.WorkerLemmas.{one_worker_lacks}
use Rattle.rc_cache.proofs.laws.one_worker_lacking_memory_takes_no_more_steps.Goals as goal

pub returns : goal.returns
returns c = one_worker_lacks
