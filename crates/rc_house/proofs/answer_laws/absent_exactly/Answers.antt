use Rattle.rc_house.proofs.WatchedLaws.{absent_exactly}
use Rattle.rc_house.proofs.answer_laws.absent_exactly.Goals as goal

pub returns : goal.returns
returns c = absent_exactly
