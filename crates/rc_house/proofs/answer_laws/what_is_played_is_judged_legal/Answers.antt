use Rattle.rc_house.proofs.PlayedLaws.{played_legal, answered_legal, played_checked}
use Rattle.rc_house.proofs.answer_laws.what_is_played_is_judged_legal.Goals as goal

pub returns-clause-legal : goal.returns-clause-legal
returns-clause-legal c = played_legal

pub returns-clause-answered : goal.returns-clause-answered
returns-clause-answered c = answered_legal

pub returns-clause-checked : goal.returns-clause-checked
returns-clause-checked c = played_checked
