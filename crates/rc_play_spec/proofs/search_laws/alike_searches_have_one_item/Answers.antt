use Rattle.rc_play_spec.proofs.RivalLemmas.{same_searches}
use Rattle.rc_play_spec.proofs.search_laws.alike_searches_have_one_item.Goals as goal

pub returns : goal.returns
returns c = same_searches
