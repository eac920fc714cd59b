use Rattle.rc_play_spec.proofs.ReachedLemmas.{decision_at_site}
use Rattle.rc_play_spec.proofs.laws.matches.decisions_stand_at_their_sites.Goals as goal

pub returns : goal.returns
returns c = λ about dealing numbered items k at seat site is stands. decision_at_site about dealing numbered items k at seat site is stands
