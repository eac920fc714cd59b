use Rattle.rc_play_spec.proofs.BestPoints.{best_push}
use Rattle.rc_play_spec.proofs.search_laws.best_points_come_first.Goals as goal

pub returns : goal.returns
returns c = best_push
