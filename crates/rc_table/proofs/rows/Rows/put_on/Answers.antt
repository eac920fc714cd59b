use Rattle.std.proofs.Common.{◌+◌, ◌≤◌, ◌<◌, refl, sym, arith, rules}
use Rattle.rc_table.proofs.RowLemmas.{counting, lies, count_is, room_is, part_ends, put_last}
use Rattle.rc_table.proofs.rows.Rows.put_on.Goals as goal

pub overflow_add-row : goal.overflow_add-row
overflow_add-row c =
    let count = count_is c.self.inside.rows.items c.self.inside.ids c.args.self.now c.self.view_is c.self.invariant c.args.at c.requires.list c.index_mut-row.result.now c.index_mut-row.ensures.value in
    let room = room_is c.self.inside.rows.items c.self.inside.ids c.args.self.now c.self.view_is c.self.invariant c.args.at c.requires.list c.index_mut-row.result.now c.index_mut-row.ensures.value in
    let small = (lies c.self.inside.rows.items c.self.inside.ids c.args.self.now c.self.view_is c.self.invariant c.args.at c.requires.list c.index_mut-row.result.now c.index_mut-row.ensures.value).small in
    let h : c.index_mut-row.result.now.count + 1 ≤ 65535 = omega (arith, count, room, c.requires.room, small) in
    search rules

pub index_mut-requires : goal.index_mut-requires
index_mut-requires c =
    let held = c.index_mut-row.result.now in
    let count = count_is c.self.inside.rows.items c.self.inside.ids c.args.self.now c.self.view_is c.self.invariant c.args.at c.requires.list c.index_mut-row.result.now c.index_mut-row.ensures.value in
    let room = room_is c.self.inside.rows.items c.self.inside.ids c.args.self.now c.self.view_is c.self.invariant c.args.at c.requires.list c.index_mut-row.result.now c.index_mut-row.ensures.value in
    let ends = part_ends c.self.inside.rows.items c.self.inside.ids c.args.self.now c.self.view_is c.self.invariant c.args.at c.requires.list c.index_mut-row.result.now c.index_mut-row.ensures.value c.self.inside.ids.items (held.count + 1) refl (omega (arith, count, room, c.requires.room)) in
    let long = c.self.inside.ids.ok.0 in
    let h : held.from + held.count < c.self.inside.ids.len = omega (arith, ends, long) in
    h

pub returns-clause-place : goal.returns-clause-place
returns-clause-place c = sym (count_is c.self.inside.rows.items c.self.inside.ids c.args.self.now c.self.view_is c.self.invariant c.args.at c.requires.list c.index_mut-row.result.now c.index_mut-row.ensures.value)

pub returns-clause-lists : goal.returns-clause-lists
returns-clause-lists c =
    let held = c.index_mut-row.result.now in
    let count = count_is c.self.inside.rows.items c.self.inside.ids c.args.self.now c.self.view_is c.self.invariant c.args.at c.requires.list c.index_mut-row.result.now c.index_mut-row.ensures.value in
    let room = room_is c.self.inside.rows.items c.self.inside.ids c.args.self.now c.self.view_is c.self.invariant c.args.at c.requires.list c.index_mut-row.result.now c.index_mut-row.ensures.value in
    (put_last c.self.inside.rows.items c.self.inside.ids c.args.self.now c.self.view_is c.self.invariant c.args.at c.requires.list c.index_mut-row.result.now c.index_mut-row.ensures.value
    (counting held (held.count + 1)) refl refl (omega (arith, count, room, c.requires.room)) c.args.id refl).0

pub invariant_of-self : goal.invariant_of-self
invariant_of-self c =
    let held = c.index_mut-row.result.now in
    let count = count_is c.self.inside.rows.items c.self.inside.ids c.args.self.now c.self.view_is c.self.invariant c.args.at c.requires.list c.index_mut-row.result.now c.index_mut-row.ensures.value in
    let room = room_is c.self.inside.rows.items c.self.inside.ids c.args.self.now c.self.view_is c.self.invariant c.args.at c.requires.list c.index_mut-row.result.now c.index_mut-row.ensures.value in
    (put_last c.self.inside.rows.items c.self.inside.ids c.args.self.now c.self.view_is c.self.invariant c.args.at c.requires.list c.index_mut-row.result.now c.index_mut-row.ensures.value
    (counting held (held.count + 1)) refl refl (omega (arith, count, room, c.requires.room)) c.args.id refl).1
