use Rattle.rc_core.proofs.SpentLemmas.{spent_stay}
use Rattle.rc_core.proofs.laws.spent_matches_stay.Goals as goal

pub returns : goal.returns
returns c = spent_stay
