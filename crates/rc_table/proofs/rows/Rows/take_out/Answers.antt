use Rattle.std.proofs.Common.{◌≡◌, ◌<◌, ◌≤◌, ◌+◌, ◌-◌, [], length, take, drop, slice_index_or, slice_set, ap, ◌∙◌, refl, sym, subst, arith, rules}
use Rattle.std.specs.List.{remove}
use Rattle.rc_table.specs.RowsSeen.{AreRows}
use Rattle.rc_table.specs.declared.rows.Rows.TheInside.{Inside}
use Rattle.rc_table.proofs.RowLemmas.{lies, part_ends, part_is, taken_out, rows_seen, lists_of, moved_down, last_out}
use Rattle.rc_table.proofs.rows.Rows.take_out.Goals as goal
use Rattle.rc_table.proofs.rows.Rows.take_out.Goals.{then-place-ids, else-place-ids}

pub slice_bounds-ids-end : goal.slice_bounds-ids-end
slice_bounds-ids-end c =
    let held = c.index_mut-row.result.now in
    let few = (lies c.self.inside.rows.items c.self.inside.ids c.args.self.now c.self.view_is c.self.invariant c.args.at c.requires.list c.index_mut-row.result.now c.index_mut-row.ensures.value).few in
    let h : held.from + held.count ≤ length c.deref_mut.result.now =
    part_ends c.self.inside.rows.items c.self.inside.ids c.args.self.now c.self.view_is c.self.invariant c.args.at c.requires.list c.index_mut-row.result.now c.index_mut-row.ensures.value c.deref_mut.result.now held.count c.deref_mut.ensures.value few in
    search rules

-- the rows are sound, and the id is out of its list
abbrev IsOut : goal.Joined-place-ids → Inside → Type 0
IsOut c rows =
    (rows_seen rows.rows.items rows.ids.items
    ≡ lists_of (slice_set c.args.self.now.all c.args.at (remove (slice_index_or c.args.self.now.all c.args.at []) c.args.place)) c.args.self.now.room)
    × AreRows rows.rows.items 0 (length rows.ids.items)

is_out : (c : goal.Joined-place-ids) → IsOut c c.if-place-ids.self-inside
is_out c =
    let held = c.index_mut-row.result.now in
    let whole = c.deref_mut.result.now in
    let row = take (held.from + held.count - held.from) (drop held.from whole) in
    let place = c.args.place in
    let part : row ≡ slice_index_or c.args.self.now.all c.args.at [] =
    part_is c.self.inside.rows.items c.self.inside.ids c.args.self.now c.self.view_is c.self.invariant c.args.at c.requires.list held c.index_mut-row.ensures.value whole (held.from + held.count - held.from) c.deref_mut.ensures.value (omega arith) in
    let out = taken_out c.self.inside.rows.items c.self.inside.ids c.args.self.now c.self.view_is c.self.invariant c.args.at c.requires.list held c.index_mut-row.ensures.value place whole in
    elim c.if-place-ids.branch [
      | then-place-ids w ↦
          subst (IsOut c) (sym w.self-inside-is) (out w.copy_within.new.self c.deref_mut.ensures.value w.copy_within.ensures.len
          (ap (take (length row - 1)) w.copy_within.ensures.after ∙ moved_down row place w.if-place-ids.true))
      | else-place-ids w ↦
          subst (IsOut c) (sym w.self-inside-is) (out row c.deref_mut.ensures.value refl
          (last_out row place (subst (λ list. place < length list) (sym part) c.requires.place) (search rules)))
    ]

pub invariant_of-self : goal.invariant_of-self
invariant_of-self c = (is_out c).1

pub returns : goal.returns
returns c = (is_out c).0
