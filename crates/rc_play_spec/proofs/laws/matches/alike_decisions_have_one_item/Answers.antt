use Rattle.rc_play_spec.proofs.MatchLemmas.{same_picks}
use Rattle.rc_play_spec.proofs.laws.matches.alike_decisions_have_one_item.Goals as goal

pub returns : goal.returns
returns c = same_picks
