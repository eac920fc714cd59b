use Rattle.rc_house.proofs.OneAnswer.{same_texts}
use Rattle.rc_house.proofs.answer_laws.texts_are_the_same.Goals as goal

pub returns : goal.returns
returns c = same_texts
