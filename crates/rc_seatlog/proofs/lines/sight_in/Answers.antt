use Rattle.rc_seatlog.proofs.RowLemmas.{faces_sight}
use Rattle.rc_seatlog.proofs.lines.sight_in.Goals as goal

pub returns-in-Some : goal.returns-in-Some
returns-in-Some c = faces_sight c.args.shape.now c.args.seen c.args.bytes.now c.in_ok-faces_in.field-0 c.in-Some.faces c.if-seen.true c.in-Some.is c.in_ok-faces_in.ensures
