use Rattle.std.proofs.Common.{set, ap, ◌∙◌}
use Rattle.rc_table.specs.Marks.{seats_in}
use Rattle.rc_table.proofs.MarkBytes.{set_seats}
use Rattle.rc_table.proofs.marks.Marks.set.Goals as goal

pub returns : goal.returns
returns c = set_seats c.self.inside.bytes.items c.args.id c.args.seats ∙ ap (λ m. set m c.args.id (seats_in c.args.seats)) c.self.view_is
