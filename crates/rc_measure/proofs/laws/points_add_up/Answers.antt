use Rattle.rc_measure.proofs.PointSums.{strategies_have_points, some_best, best_add_up}
use Rattle.rc_measure.proofs.laws.points_add_up.Goals as goal

pub returns-clause-points : goal.returns-clause-points
returns-clause-points c = strategies_have_points

pub returns-clause-some : goal.returns-clause-some
returns-clause-some c = some_best

pub returns-clause-best : goal.returns-clause-best
returns-clause-best c = best_add_up
