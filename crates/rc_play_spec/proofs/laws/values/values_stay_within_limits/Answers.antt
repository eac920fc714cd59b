use Rattle.rc_play_spec.proofs.Bounds.{coll_within, number_bounded}
use Rattle.rc_play_spec.proofs.laws.values.values_stay_within_limits.Goals as goal

pub returns-clause-cards : goal.returns-clause-cards
returns-clause-cards c = λ scene vars cards. coll_within scene vars cards

pub returns-clause-numbers : goal.returns-clause-numbers
returns-clause-numbers c = λ sheet around scene vars e is within. number_bounded scene sheet around vars e is within
