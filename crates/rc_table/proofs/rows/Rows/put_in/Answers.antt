use Rattle.std.proofs.Common.{◌≤◌, ◌<◌, ◌+◌, length, rules, arith}
use Rattle.rc_table.proofs.RowLemmas.{lies, count_is, room_is, part_ends, inserted}
use Rattle.rc_table.proofs.rows.Rows.put_in.Goals as goal

pub overflow_add-row : goal.overflow_add-row
overflow_add-row c =
    let count = count_is c.self.inside.rows.items c.self.inside.ids c.args.self.now c.self.view_is c.self.invariant c.args.at c.requires.list c.index_mut-row.result.now c.index_mut-row.ensures.value in
    let room = room_is c.self.inside.rows.items c.self.inside.ids c.args.self.now c.self.view_is c.self.invariant c.args.at c.requires.list c.index_mut-row.result.now c.index_mut-row.ensures.value in
    let small = (lies c.self.inside.rows.items c.self.inside.ids c.args.self.now c.self.view_is c.self.invariant c.args.at c.requires.list c.index_mut-row.result.now c.index_mut-row.ensures.value).small in
    let h : c.index_mut-row.result.now.count + 1 ≤ 65535 = omega (arith, count, room, c.requires.room, small) in
    search rules

pub slice_bounds-insert_at-end : goal.slice_bounds-insert_at-end
slice_bounds-insert_at-end c =
    let held = c.index_mut-row.result.now in
    let count = count_is c.self.inside.rows.items c.self.inside.ids c.args.self.now c.self.view_is c.self.invariant c.args.at c.requires.list c.index_mut-row.result.now c.index_mut-row.ensures.value in
    let room = room_is c.self.inside.rows.items c.self.inside.ids c.args.self.now c.self.view_is c.self.invariant c.args.at c.requires.list c.index_mut-row.result.now c.index_mut-row.ensures.value in
    let h : held.from + (held.count + 1) ≤ length c.deref_mut.result.now =
    part_ends c.self.inside.rows.items c.self.inside.ids c.args.self.now c.self.view_is c.self.invariant c.args.at c.requires.list c.index_mut-row.result.now c.index_mut-row.ensures.value c.deref_mut.result.now (held.count + 1) c.deref_mut.ensures.value (omega (arith, count, room, c.requires.room)) in
    search rules

pub returns : goal.returns
returns c =
    let held = c.index_mut-row.result.now in
    let count = count_is c.self.inside.rows.items c.self.inside.ids c.args.self.now c.self.view_is c.self.invariant c.args.at c.requires.list c.index_mut-row.result.now c.index_mut-row.ensures.value in
    let room = room_is c.self.inside.rows.items c.self.inside.ids c.args.self.now c.self.view_is c.self.invariant c.args.at c.requires.list c.index_mut-row.result.now c.index_mut-row.ensures.value in
    let less : held.count < held.room = omega (arith, count, room, c.requires.room) in
    (inserted c.self.inside.rows.items c.self.inside.ids c.args.self.now c.self.view_is c.self.invariant c.args.at c.requires.list c.index_mut-row.result.now c.index_mut-row.ensures.value
    c.args.place c.args.id c.deref_mut.result.now c.insert_at.new.row c.deref_mut.ensures.value less c.insert_at.ensures.long c.insert_at.ensures.row).0

pub invariant_of-self : goal.invariant_of-self
invariant_of-self c =
    let held = c.index_mut-row.result.now in
    let count = count_is c.self.inside.rows.items c.self.inside.ids c.args.self.now c.self.view_is c.self.invariant c.args.at c.requires.list c.index_mut-row.result.now c.index_mut-row.ensures.value in
    let room = room_is c.self.inside.rows.items c.self.inside.ids c.args.self.now c.self.view_is c.self.invariant c.args.at c.requires.list c.index_mut-row.result.now c.index_mut-row.ensures.value in
    let less : held.count < held.room = omega (arith, count, room, c.requires.room) in
    (inserted c.self.inside.rows.items c.self.inside.ids c.args.self.now c.self.view_is c.self.invariant c.args.at c.requires.list c.index_mut-row.result.now c.index_mut-row.ensures.value
    c.args.place c.args.id c.deref_mut.result.now c.insert_at.new.row c.deref_mut.ensures.value less c.insert_at.ensures.long c.insert_at.ensures.row).1
