use Rattle.rc_house.proofs.SomeAnswer.{answered}
use Rattle.rc_house.proofs.answer_laws.some_answer.Goals as goal

pub returns : goal.returns
returns c = answered
