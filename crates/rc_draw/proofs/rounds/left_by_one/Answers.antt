use Rattle.rc_draw.proofs.RowLemmas.{left_one}
use Rattle.rc_draw.proofs.rounds.left_by_one.Goals as goal

pub returns : goal.returns
returns c = left_one c.args.vector c.fits-vector.0
