use Rattle.std.proofs.Common.{length, map, sym, ap, ◌∙◌, subst}
use Rattle.rc_play_spec.specs.Shape.{Shape}
use Rattle.rc_play_spec.specs.Table.{Table, IsSound}
use Rattle.rc_table.specs.Laid.{Laid}
use Rattle.rc_table.specs.Marks.{seats_in}
use Rattle.rc_table.proofs.Held.{all_fit}
use Rattle.rc_table.proofs.WhereaboutLemmas.{noted_all}
use Rattle.rc_table.proofs.table.Table.lay.Goals as goal

pub lay-requires-clause-room : goal.lay-requires-clause-room
lay-requires-clause-room c =
    let table : Table = record { lists = map (λ list. list.items) c.args.lists.now; numbers = c.args.numbers.now; marks = map seats_in c.args.marks.now } in
    let sound = subst (λ (laid : Laid). IsSound laid.shape table) (sym c.self.view_is) c.requires in
    all_fit _ table sound c.self.invariant.limits c.self.inside.lists.room c.self.invariant.fits

pub note_all-requires-clause-each : goal.note_all-requires-clause-each
note_all-requires-clause-each c =
    let table : Table = record { lists = c.self.inside.lists.all; numbers = c.self.inside.numbers.items; marks = c.self.inside.marks } in
    ap length (c.deref_mut.ensures.value ∙ c.self.invariant.noted) ∙ noted_all c.self.inside.shape.value table
    ∙ ap (λ (shape : Shape). length shape.faces) (sym c.deref.ensures)
