use Rattle.std.proofs.Common.{map, ap, ◌∙◌}
use Rattle.rc_table.specs.Marks.{seats_in}
use Rattle.rc_table.proofs.MarkBytes.{none_seats}
use Rattle.rc_table.proofs.marks.Marks.new.Goals as goal

pub returns : goal.returns
returns c = ap (map seats_in) c.in_ok-bytes.ensures ∙ none_seats c.args.count
