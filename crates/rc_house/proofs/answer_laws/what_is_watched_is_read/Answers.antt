use Rattle.rc_house.proofs.WatchedLaws.{watched_read}
use Rattle.rc_house.proofs.answer_laws.what_is_watched_is_read.Goals as goal

pub returns : goal.returns
returns c = watched_read c.logs_of_matches_are_read.ensures
