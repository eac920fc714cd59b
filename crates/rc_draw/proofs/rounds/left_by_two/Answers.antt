use Rattle.rc_draw.proofs.RowLemmas.{left_two}
use Rattle.rc_draw.proofs.rounds.left_by_two.Goals as goal

pub returns : goal.returns
returns c = left_two c.args.vector c.fits-vector.0
