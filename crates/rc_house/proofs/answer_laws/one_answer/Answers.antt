use Rattle.rc_house.proofs.OneAnswer.{only_answer}
use Rattle.rc_house.proofs.answer_laws.one_answer.Goals as goal

pub returns : goal.returns
returns c = only_answer
