use Rattle.std.proofs.Common.{[], length, map, get_or, sym, ap, ◌∙◌, subst}
use Rattle.std.proofs.lemmas.List.{length-map}
use Rattle.rc_table.specs.Rows.{Lists}
use Rattle.rc_table.specs.RowsSeen.{list_in, room_of, AreRows}
use Rattle.rc_table.proofs.RowLemmas.{same_ends}
use Rattle.rc_table.proofs.CopiedLists.{as_long}
use Rattle.rc_table.proofs.rows.Rows.copy_counts.Goals as goal

-- the other rows lie within the ids that are here
fitting : (c : goal.After-copy_from_slice) → AreRows c.other.inside.rows.items 0 (length c.self.inside.ids.items)
fitting c =
    let rooms = ap (λ (lists : Lists). lists.room) c.self.view_is ∙ sym c.requires ∙ sym (ap (λ (lists : Lists). lists.room) c.other.view_is) in
    let ends =
    same_ends c.self.inside.rows.items c.other.inside.rows.items 0 (length c.self.inside.ids.items) (length c.other.inside.ids.items) c.self.invariant c.other.invariant rooms in
    subst (AreRows c.other.inside.rows.items 0) (sym ends) c.other.invariant

pub invariant_of-self : goal.invariant_of-self
invariant_of-self c =
    subst (λ rows. AreRows rows 0 (length c.self.inside.ids.items)) (sym (c.copy_from_slice.ensures.items ∙ c.deref.ensures.value)) (fitting c)

pub returns-clause-room : goal.returns-clause-room
returns-clause-room c =
    ap (map room_of) (c.copy_from_slice.ensures.items ∙ c.deref.ensures.value) ∙ ap (λ (lists : Lists). lists.room) c.other.view_is ∙ c.requires

pub returns-clause-each : goal.returns-clause-each
returns-clause-each c =
    let rows = c.copy_from_slice.ensures.items ∙ c.deref.ensures.value in
    let ids = c.self.inside.ids.items in
    ap (λ rows. length (map (list_in ids) rows)) rows ∙ length-map c.other.inside.rows.items (list_in ids)
    ∙ sym (length-map c.other.inside.rows.items (list_in c.other.inside.ids.items)) ∙ ap (λ (lists : Lists). length lists.all) c.other.view_is

pub returns-clause-lengths : goal.returns-clause-lengths
returns-clause-lengths c = λ at.
    let rows = c.copy_from_slice.ensures.items ∙ c.deref.ensures.value in
    let ids = c.self.inside.ids.items in
    ap (λ rows. length (get_or (map (list_in ids) rows) at [])) rows
    ∙ as_long c.other.inside.rows.items ids c.other.inside.ids.items (fitting c) c.other.invariant at
    ∙ ap (λ (lists : Lists). length (get_or lists.all at [])) c.other.view_is
