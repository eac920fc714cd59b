use Rattle.std.proofs.Common.{refl}
use Rattle.std.specs.Fmt.{digits}
use Rattle.rc_house.proofs.table_examples.sources_of_tasks.Goals as goal

pub returns-clause-note : goal.returns-clause-note
unfolding digits
returns-clause-note c = refl
