use Rattle.std.proofs.Common.{refl}
use Rattle.std.specs.Fmt.{digits}
use Rattle.rc_sheet_spec.proofs.printing_examples.setup_printed.Goals as goal

pub returns-clause-decks_first : goal.returns-clause-decks_first
unfolding digits
returns-clause-decks_first c = refl

pub returns-clause-teams : goal.returns-clause-teams
unfolding digits
returns-clause-teams c = refl
