use Rattle.rc_code.proofs.ImplementsLemmas.{standing_implements}
use Rattle.rc_code.proofs.laws.standing_code_implements.Goals as goal

pub returns : goal.returns
returns c = standing_implements
