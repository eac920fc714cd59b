use Rattle.std.proofs.Common.{◌<◌, ℕ, List, [], ◌∷◌, map, ℤ, ap, ap₂, ◌∙◌, Vec, Global, arith}
use Rattle.rc_rules.specs.Record.{record_seen}
use Rattle.rc_measure.specs.Tally.{Tally}
use Rattle.rc_measure.specs.Measures.{numbers, seat_row, seat_points}
use Rattle.rc_measure.proofs.CodeLemmas.{row_more}
use Rattle.rc_measure.proofs.GroupLemmas.{at_place}
use Rattle.rc_measure.proofs.measures.seat_rows.Goals as goal

pub loop-seat-preserved : goal.loop-seat-preserved
loop-seat-preserved c =
    let records = map record_seen c.args.matches.now in
    let seat = c.loop-seat.seat in
    let items : Vec ℤ Global → List ℤ = λ row. row.items in
    let less : seat < 64 = omega (arith, c.loop-seat-test.true, c.len-seat-end.ensures, c.requires.strategies) in
    ap (map items) c.in_ok-push.ensures.items
    ∙ row_more items (seat_row records) c.loop-seat.rows.items seat c.in_ok-seat_row.field-0 c.loop-seat.invariant
    (c.in_ok-seat_row.ensures
    ∙ ap₂ (λ (t : Tally) (points : ℕ). numbers (seat ∷ t.choices ∷ t.forced ∷ t.menu ∷ points ∷ []))
    (at_place c.tallies_by-tallies.result c.from-in-loop-seat.result seat _ _ c.from-in-loop-seat.ensures (c.tallies_by-tallies.ensures.tallies seat _ less))
    (c.seat_points-points.ensures.points ∙ ap (seat_points records) c.from.ensures))
