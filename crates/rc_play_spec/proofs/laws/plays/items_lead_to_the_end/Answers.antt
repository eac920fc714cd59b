use Rattle.rc_play_spec.proofs.FollowLemmas.{play_leads}
use Rattle.rc_play_spec.proofs.laws.plays.items_lead_to_the_end.Goals as goal

pub returns : goal.returns
returns c = λ about dealing chooser keeps k p is all. play_leads about dealing chooser keeps k p is all
