use Rattle.rc_match.proofs.CountLemmas.{each_asks, all_ask}
use Rattle.rc_match.proofs.laws.each_rollout_pick_asks.Goals as goal

pub returns-clause-one : goal.returns-clause-one
returns-clause-one c = each_asks c.picks_are_items.ensures.fronts

pub returns-clause-all : goal.returns-clause-all
returns-clause-all c = all_ask c.picks_are_items.ensures.fronts
