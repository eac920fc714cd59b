use Rattle.std.proofs.Common.{[], length, get_or, sym, ap, ◌∙◌}
use Rattle.rc_play_spec.specs.Shape.{Shape}
use Rattle.rc_play_spec.specs.Table.{Table}
use Rattle.rc_table.proofs.WhereaboutLemmas.{noted_all}
use Rattle.rc_table.specs.Laid.{Laid}
use Rattle.rc_table.specs.Rows.{Lists}
use Rattle.rc_table.proofs.Others.{others_stay}
use Rattle.rc_table.proofs.table.Table.refill.Goals as goal

pub note_all-requires-clause-each : goal.note_all-requires-clause-each
note_all-requires-clause-each c =
    let table : Table = record { lists = c.self.inside.lists.all; numbers = c.self.inside.numbers.items; marks = c.self.inside.marks } in
    ap length (c.deref_mut.ensures.value ∙ c.self.invariant.noted) ∙ noted_all c.self.inside.shape.value table
    ∙ ap (λ (shape : Shape). length shape.faces) (sym c.deref.ensures)

pub returns-clause-others : goal.returns-clause-others
returns-clause-others c = λ at never.
    ap (λ (lists : Lists). get_or lists.all at []) c.refill.ensures
    ∙ others_stay c.args.locs.now c.args.ids.now c.self.inside.lists.all at never
    ∙ ap (λ (laid : Laid). get_or laid.table.lists at []) c.self.view_is
