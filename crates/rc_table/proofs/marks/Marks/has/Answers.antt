use Rattle.std.proofs.Common.{length, map, sym, ap, ◌∙◌, arith}
use Rattle.std.proofs.lemmas.List.{length-map}
use Rattle.rc_play_spec.specs.Table.{is_marked}
use Rattle.rc_table.specs.Marks.{seats_in, has_bit}
use Rattle.rc_table.proofs.MarkBytes.{marked_is, none_marked_in}
use Rattle.rc_table.proofs.marks.Marks.has.Goals as goal

pub returns-then-self : goal.returns-then-self
returns-then-self c =
    let bytes = c.self.inside.bytes.items in
    let long = ap length c.self.view_is in
    let same = length-map bytes seats_in in
    ap (λ byte. has_bit byte c.args.seat) c.index.ensures
    ∙ sym (marked_is bytes c.args.id c.args.seat _ (omega (arith, long, same, c.requires.card)) c.requires.seat)
    ∙ ap (λ marks. is_marked marks c.args.seat c.args.id) c.self.view_is

pub returns-else-self : goal.returns-else-self
returns-else-self c =
    let quiet = c.self.invariant c.if-self.false in
    let none = sym (ap (map seats_in) quiet) ∙ c.self.view_is in
    c.if-self.false ∙ sym (none_marked_in (length c.self.inside.bytes.items) c.args.id c.args.seat)
    ∙ ap (λ marks. is_marked marks c.args.seat c.args.id) none
