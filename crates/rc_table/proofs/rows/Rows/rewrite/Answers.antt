use Rattle.std.proofs.Common.{◌+◌, ◌-◌, ◌≤◌, length, take, set, refl, sym, ap, ◌∙◌, arith, rules}
use Rattle.std.proofs.lemmas.List.{take_all, set-get_or}
use Rattle.std.specs.Vec.{with_items}
use borrow.Rule.Slice.PartMut.{put_mid}
use Rattle.rc_table.proofs.RowLemmas.{rows_seen, lies, count_is, part_ends, written}
use Rattle.rc_table.proofs.rows.Rows.rewrite.Goals as goal

pub slice_bounds-copy_from_slice-end : goal.slice_bounds-copy_from_slice-end
slice_bounds-copy_from_slice-end c =
    let held = c.index.result.now in
    let count = count_is c.self.inside.rows.items c.self.inside.ids c.args.self.now c.self.view_is c.self.invariant c.args.at c.requires.list c.index.result.now c.index.ensures in
    let few = (lies c.self.inside.rows.items c.self.inside.ids c.args.self.now c.self.view_is c.self.invariant c.args.at c.requires.list c.index.result.now c.index.ensures).few in
    let h : held.from + length c.args.list.now ≤ length c.deref_mut.result.now =
    part_ends c.self.inside.rows.items c.self.inside.ids c.args.self.now c.self.view_is c.self.invariant c.args.at c.requires.list c.index.result.now c.index.ensures c.deref_mut.result.now (length c.args.list.now) c.deref_mut.ensures.value (omega (arith, count, few, c.requires.length)) in
    search rules

pub returns : goal.returns
returns c =
    let held = c.index.result.now in
    let list = c.args.list.now in
    let new = c.copy_from_slice.new.self in
    let count = count_is c.self.inside.rows.items c.self.inside.ids c.args.self.now c.self.view_is c.self.invariant c.args.at c.requires.list c.index.result.now c.index.ensures in
    let few = (lies c.self.inside.rows.items c.self.inside.ids c.args.self.now c.self.view_is c.self.invariant c.args.at c.requires.list c.index.result.now c.index.ensures).few in
    let n = held.from + length list - held.from in
    let long = ap length c.copy_from_slice.ensures.after in
    let same = ap (set c.self.inside.rows.items c.args.at) c.index.ensures ∙ set-get_or c.self.inside.rows.items c.args.at held in
    sym (ap (λ rows. rows_seen rows (with_items c.self.inside.ids (put_mid held.from n c.deref_mut.result.now new)).items) same)
    ∙ (written c.self.inside.rows.items c.self.inside.ids c.args.self.now c.self.view_is c.self.invariant c.args.at c.requires.list c.index.result.now c.index.ensures
    held refl refl few c.deref_mut.result.now new list n c.deref_mut.ensures.value
    (omega (arith, long, count, c.requires.length)) (omega (arith, long)) (omega (arith, count, few, c.requires.length))
    (ap (take held.count) c.copy_from_slice.ensures.after ∙ take_all held.count list (omega (arith, count, c.requires.length)))).0
