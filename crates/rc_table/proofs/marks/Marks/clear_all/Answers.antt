use Rattle.std.proofs.Common.{length, map, sym, ap, ◌∙◌}
use Rattle.rc_play_spec.specs.Table.{cleared}
use Rattle.rc_table.specs.Marks.{seats_in}
use Rattle.rc_table.proofs.MarkBytes.{none_cleared}
use Rattle.rc_table.proofs.marks.Marks.clear_all.Goals as goal

pub returns-else-self : goal.returns-else-self
returns-else-self c =
    let quiet = c.self.invariant c.if-self.false in
    let none = sym c.self.view_is ∙ ap (map seats_in) quiet in
    none ∙ sym (none_cleared c.args.ids.now (length c.self.inside.bytes.items)) ∙ ap (cleared c.args.ids.now) (sym none)
