use Rattle.rc_play_spec.proofs.RivalLemmas.{searched-lt}
use Rattle.rc_play_spec.proofs.search_laws.searches_choose_items.Goals as goal

pub returns : goal.returns
returns c = searched-lt
