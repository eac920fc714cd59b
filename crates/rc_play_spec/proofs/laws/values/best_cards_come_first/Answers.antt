use Rattle.rc_play_spec.proofs.BestLemmas.{largest_first, smallest_first}
use Rattle.rc_play_spec.proofs.laws.values.best_cards_come_first.Goals as goal

pub returns-clause-largest : goal.returns-clause-largest
returns-clause-largest c = λ worth cards card is. largest_first worth cards card is

pub returns-clause-smallest : goal.returns-clause-smallest
returns-clause-smallest c = λ worth cards card is. smallest_first worth cards card is
