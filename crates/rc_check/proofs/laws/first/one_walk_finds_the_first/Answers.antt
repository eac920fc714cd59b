use Rattle.rc_check.proofs.SecondLaw.{finds_first}
use Rattle.rc_check.proofs.laws.first.one_walk_finds_the_first.Goals as goal

pub returns : goal.returns
returns c = finds_first
