use Rattle.std.proofs.Common.{◌+◌, ◌-◌, ◌≤◌, length, take, refl, ap, ◌∙◌, arith, rules}
use Rattle.std.proofs.lemmas.List.{take_all}
use Rattle.rc_table.proofs.RowLemmas.{counting, lies, room_is, part_ends, written}
use Rattle.rc_table.proofs.rows.Rows.overwrite.Goals as goal

pub overflow_cast-row : goal.overflow_cast-row
overflow_cast-row c =
    let room = room_is c.self.inside.rows.items c.self.inside.ids c.args.self.now c.self.view_is c.self.invariant c.args.at c.requires.list c.index_mut-row.result.now c.index_mut-row.ensures.value in
    let small = (lies c.self.inside.rows.items c.self.inside.ids c.args.self.now c.self.view_is c.self.invariant c.args.at c.requires.list c.index_mut-row.result.now c.index_mut-row.ensures.value).small in
    let h : length c.args.list.now ≤ 65535 = omega (arith, room, small, c.requires.room) in
    search rules

pub slice_bounds-copy_from_slice-end : goal.slice_bounds-copy_from_slice-end
slice_bounds-copy_from_slice-end c =
    let held = c.index_mut-row.result.now in
    let room = room_is c.self.inside.rows.items c.self.inside.ids c.args.self.now c.self.view_is c.self.invariant c.args.at c.requires.list c.index_mut-row.result.now c.index_mut-row.ensures.value in
    let h : held.from + length c.args.list.now ≤ length c.deref_mut.result.now =
    part_ends c.self.inside.rows.items c.self.inside.ids c.args.self.now c.self.view_is c.self.invariant c.args.at c.requires.list c.index_mut-row.result.now c.index_mut-row.ensures.value c.deref_mut.result.now (length c.args.list.now) c.deref_mut.ensures.value (omega (arith, room, c.requires.room)) in
    search rules

pub returns : goal.returns
returns c =
    let held = c.index_mut-row.result.now in
    let list = c.args.list.now in
    let room = room_is c.self.inside.rows.items c.self.inside.ids c.args.self.now c.self.view_is c.self.invariant c.args.at c.requires.list c.index_mut-row.result.now c.index_mut-row.ensures.value in
    let long = ap length c.copy_from_slice.ensures.after in
    (written c.self.inside.rows.items c.self.inside.ids c.args.self.now c.self.view_is c.self.invariant c.args.at c.requires.list c.index_mut-row.result.now c.index_mut-row.ensures.value
    (counting held (length list)) refl refl (omega (arith, room, c.requires.room)) c.deref_mut.result.now c.copy_from_slice.new.self list
    (held.from + length list - held.from) c.deref_mut.ensures.value (omega (arith, long)) (omega (arith, long)) (omega (arith, room, c.requires.room))
    (ap (take (length list)) c.copy_from_slice.ensures.after ∙ take_all (length list) list (omega arith))).0

pub invariant_of-self : goal.invariant_of-self
invariant_of-self c =
    let held = c.index_mut-row.result.now in
    let list = c.args.list.now in
    let room = room_is c.self.inside.rows.items c.self.inside.ids c.args.self.now c.self.view_is c.self.invariant c.args.at c.requires.list c.index_mut-row.result.now c.index_mut-row.ensures.value in
    let long = ap length c.copy_from_slice.ensures.after in
    (written c.self.inside.rows.items c.self.inside.ids c.args.self.now c.self.view_is c.self.invariant c.args.at c.requires.list c.index_mut-row.result.now c.index_mut-row.ensures.value
    (counting held (length list)) refl refl (omega (arith, room, c.requires.room)) c.deref_mut.result.now c.copy_from_slice.new.self list
    (held.from + length list - held.from) c.deref_mut.ensures.value (omega (arith, long)) (omega (arith, long)) (omega (arith, room, c.requires.room))
    (ap (take (length list)) c.copy_from_slice.ensures.after ∙ take_all (length list) list (omega arith))).1
