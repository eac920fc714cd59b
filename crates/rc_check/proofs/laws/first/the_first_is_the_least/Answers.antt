use Rattle.rc_check.proofs.InOrder.{first_is_least}
use Rattle.rc_check.proofs.laws.first.the_first_is_the_least.Goals as goal

pub returns : goal.returns
returns c = λ tree size fault placed is. first_is_least size tree fault placed is
