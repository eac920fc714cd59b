use Rattle.std.proofs.Common.{[], length, map, set, sym, ap, ◌∙◌}
use Rattle.rc_table.specs.Marks.{seats_in}
use Rattle.rc_table.proofs.MarkBytes.{set_seats, none_set}
use Rattle.rc_table.proofs.marks.Marks.clear.Goals as goal

pub returns-then-self : goal.returns-then-self
returns-then-self c = set_seats c.self.inside.bytes.items c.args.id 0 ∙ ap (λ m. set m c.args.id []) c.self.view_is

pub returns-else-self : goal.returns-else-self
returns-else-self c =
    let quiet = c.self.invariant c.if-self.false in
    let none = sym c.self.view_is ∙ ap (map seats_in) quiet in
    none ∙ none_set (length c.self.inside.bytes.items) c.args.id ∙ ap (λ m. set m c.args.id []) (sym none)
