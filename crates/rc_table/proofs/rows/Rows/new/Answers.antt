use Rattle.std.proofs.Common.{◌≡◌, ◌<◌, ◌≤◌, ◌+◌, ◌++◌, ◌∷◌, [], length, map, refl, sym, ap, ap₂, ◌∙◌, subst, arith, rules, Some}
use Rattle.std.proofs.lemmas.List.{length-map, map-append, take_more, replicate_more}
use Rattle.rc_table.specs.declared.rows.Row.{Row}
use Rattle.rc_table.specs.RowsSeen.{list_in, room_of, AreRows}
use Rattle.rc_table.specs.Laid.{room_in, rooms}
use Rattle.rc_table.proofs.Held.{room_at}
use Rattle.rc_table.proofs.RowLemmas.{rows_more}
use Rattle.rc_table.proofs.rows.Rows.new.Goals as goal

pub loop-loc-preserved : goal.loop-loc-preserved
loop-loc-preserved c =
    let shape = c.args.shape.now in
    let inv = c.loop-loc.invariant in
    let loc = c.loop-loc.loc in
    let end = c.loop-loc.end in
    let room = c.room_of-room.result in
    let all_rows = c.loop-loc.rows.items in
    let row : Row = record { from = end; count = 0; room = room } in
    let more : c.push.new.self.items ≡ all_rows ++ row ∷ [] = c.in_ok-push.ensures.items in
    let test = c.loop-loc-test.true in
    let last = c.loop-loc.auto.loc-end in
    let count = c.locations-loc-end.ensures in
    let within : loc < length shape.places = omega (arith, test, last, count) in
    let long = length-map shape.places (λ place. room_in shape (Some place)) in
    let small : room ≤ 65535 = search rules in
    let ends = inv.small in
    record {
      are = subst (λ list. AreRows list 0 (end + room)) (sym more) (rows_more all_rows 0 end row inv.are refl (omega arith) small);
      rooms = ap (map room_of) more ∙ map-append room_of all_rows (row ∷ [])
          ∙ ap₂ (λ rooms room. rooms ++ room ∷ []) inv.rooms (c.room_of-room.ensures ∙ sym (room_at shape loc within))
          ∙ sym (take_more (rooms shape) loc 0 (omega (arith, within, long)));
      lists = λ ids. ap (map (list_in ids)) more ∙ map-append (list_in ids) all_rows (row ∷ []) ∙ ap (λ lists. lists ++ [] ∷ []) (inv.lists ids) ∙ replicate_more loc [];
      small = omega (arith, ends, small);
    }
