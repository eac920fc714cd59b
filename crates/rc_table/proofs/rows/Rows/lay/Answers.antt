use Rattle.std.proofs.Common.{◌<◌, [], length, map, get_or, ap, ap₂, ◌∙◌, sym, arith}
use Rattle.std.proofs.lemmas.List.{length-map, get_or-map, ext_get_or}
use Rattle.rc_table.proofs.RowLemmas.{items_of, lists_of}
use Rattle.rc_table.proofs.rows.Rows.lay.Goals as goal

pub overwrite-requires-clause-room : goal.overwrite-requires-clause-room
overwrite-requires-clause-room c =
    let rows = c.args.lists.now in
    let at = c.loop-at.at in
    let test = c.loop-at-test.true in
    let last = c.loop-at.auto.at-end in
    let within : at < length rows = omega (arith, test, last) in
    let long = length-map rows items_of in
    let few = c.requires.room at (omega (arith, within, long)) in
    let same = ap length (c.deref.ensures.value ∙ ap items_of c.index-lists-at.is ∙ sym (get_or-map items_of rows at c.index-lists-at.result [] within)) in
    let room = ap (λ room. get_or room at 0) c.loop-at.invariant.room in
    omega (arith, few, same, room)

pub returns : goal.returns
returns c =
    let rows = c.args.lists.now in
    let inv = c.loop-at.invariant in
    let long = length-map rows items_of in
    let test = c.loop-at-test.false in
    let last = c.loop-at.auto.at-end in
    ap₂ lists_of
    (ext_get_or [] c.loop-at.self.all (map items_of rows) (omega (arith, inv.long, long)) (λ k less. inv.same k (omega (arith, less, inv.long, test, last))))
    inv.room
