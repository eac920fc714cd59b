use Rattle.rc_code.proofs.MeaningLemmas.{does_first}
use Rattle.rc_code.proofs.LeftLemmas.{left_done}
use Rattle.rc_code.proofs.laws.code_is_done_in_order.Goals as goal

pub returns-clause-does : goal.returns-clause-does
returns-clause-does c = does_first

pub returns-clause-nothing : goal.returns-clause-nothing
returns-clause-nothing c = left_done
