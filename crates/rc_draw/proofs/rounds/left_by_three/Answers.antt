use Rattle.rc_draw.proofs.RowLemmas.{left_three}
use Rattle.rc_draw.proofs.rounds.left_by_three.Goals as goal

pub returns : goal.returns
returns c = left_three c.args.vector c.fits-vector.0
