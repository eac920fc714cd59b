use Rattle.rc_measure.proofs.Numbers.{have_numbers}
use Rattle.rc_measure.proofs.laws.measures_have_numbers.Goals as goal

pub returns : goal.returns
returns c = have_numbers
