use Rattle.rc_house.proofs.PlaysLaw.{written_played}
use Rattle.rc_house.proofs.answer_laws.what_is_written_is_played.Goals as goal

pub returns : goal.returns
returns c = written_played
