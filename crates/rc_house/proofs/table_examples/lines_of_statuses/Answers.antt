use Rattle.std.proofs.Common.{refl}
use Rattle.std.specs.Fmt.{digits}
use Rattle.rc_house.proofs.table_examples.lines_of_statuses.Goals as goal

pub returns-clause-sheet : goal.returns-clause-sheet
unfolding digits
returns-clause-sheet c = refl

pub returns-clause-no_cards : goal.returns-clause-no_cards
unfolding digits
returns-clause-no_cards c = refl

pub returns-clause-plan : goal.returns-clause-plan
unfolding digits
returns-clause-plan c = refl

pub returns-clause-text : goal.returns-clause-text
unfolding digits
returns-clause-text c = refl

pub returns-clause-illegal : goal.returns-clause-illegal
unfolding digits
returns-clause-illegal c = refl

pub returns-clause-misnamed : goal.returns-clause-misnamed
unfolding digits
returns-clause-misnamed c = refl
