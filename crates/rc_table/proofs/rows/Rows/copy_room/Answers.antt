use Rattle.std.proofs.Common.{length, sym, ap, ap₂, ◌∙◌}
use Rattle.rc_table.specs.Rows.{Lists}
use Rattle.rc_table.proofs.RowLemmas.{rows_seen, same_ends}
use Rattle.rc_table.proofs.rows.Rows.copy_room.Goals as goal

pub copy_from_slice-requires : goal.copy_from_slice-requires
copy_from_slice-requires c =
    let rooms = ap (λ (lists : Lists). lists.room) c.self.view_is ∙ sym c.requires ∙ sym (ap (λ (lists : Lists). lists.room) c.other.view_is) in
    c.self.inside.ids.ok.0
    ∙ same_ends c.self.inside.rows.items c.other.inside.rows.items 0 (length c.self.inside.ids.items) (length c.other.inside.ids.items) c.self.invariant c.other.invariant rooms
    ∙ sym (ap length c.deref.ensures.value)

pub returns : goal.returns
returns c =
    ap₂ rows_seen (c.copy_from_slice-2.ensures.items ∙ c.deref-2.ensures.value) (c.copy_from_slice.ensures.items ∙ c.deref.ensures.value) ∙ c.other.view_is
