use Rattle.rc_code.proofs.PlacedLemmas.{sites_placed}
use Rattle.rc_code.proofs.laws.sites_are_placed.Goals as goal

pub returns : goal.returns
returns c = sites_placed
