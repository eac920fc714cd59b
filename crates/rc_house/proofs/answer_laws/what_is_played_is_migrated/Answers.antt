use Rattle.rc_house.proofs.PlayedLaws.{played_migrated}
use Rattle.rc_house.proofs.answer_laws.what_is_played_is_migrated.Goals as goal

pub returns : goal.returns
returns c = played_migrated
