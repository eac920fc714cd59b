use Rattle.rc_house.proofs.OneAnswer.{alike_answers}
use Rattle.rc_house.proofs.answer_laws.answers_are_alike.Goals as goal

pub returns : goal.returns
returns c = alike_answers
