use Rattle.std.proofs.Common.{[], ◌<◌, length, map, ap, ◌∙◌, arith}
use Rattle.std.specs.Prelude.{All}
use Rattle.std.proofs.lemmas.List.{map-append, length-map, get_or_read}
use Rattle.rc_base.specs.Clamp.{IsWithinClamp}
use Rattle.rc_deck.specs.Points.{entries_of}
use Rattle.rc_rules.specs.Lookup.{rows_seen, worth_row}
use Rattle.rc_rules.proofs.Elements.{each_here, map_here}
use Rattle.rc_rules.proofs.Rows.{row_more}
use Rattle.rc_rules.proofs.lookup.worth_rows.Goals as goal

pub worths_of-requires : goal.worths_of-requires
worths_of-requires c = record {
  clamped =
      each_here (All (λ entry. IsWithinClamp entry.points)) entries_of c.args.sheet.now.points.items c.loop-place.place c.index.result.now c.requires.clamped
      (omega (arith, c.loop-place-test.true, c.len-place-end.ensures)) c.index.ensures;
}

pub loop-place-preserved : goal.loop-place-preserved
loop-place-preserved c =
    let maps = c.args.sheet.now.points.items in
    let place = c.loop-place.place in
    let x = c.index.result.now in
    let lt : place < length maps = omega (arith, c.loop-place-test.true, c.len-place-end.ensures) in
    let lt' : place < length (map entries_of maps) = omega (arith, lt, length-map maps entries_of) in
    row_more (worth_row c.args.shape.now.faces) [] (map entries_of maps) (rows_seen c.loop-place.rows.items) _ place _ lt'
    (c.in_ok-row.ensures ∙ ap (worth_row c.args.shape.now.faces) (get_or_read (map entries_of maps) place (entries_of x) lt' (map_here entries_of maps place x lt c.index.ensures) []))
    (ap rows_seen c.in_ok-push.ensures.items ∙ map-append (λ row. row.items) c.loop-place.rows.items _) c.loop-place.invariant
