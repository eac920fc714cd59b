use Rattle.std.proofs.Common.{◌≡◌, map}
use Rattle.rc_rules.specs.Record.{record_seen}
use Rattle.rc_base.specs.Numbers.{below}
use Rattle.rc_measure.specs.Measures.{seat_row}
use Rattle.rc_measure.proofs.measures.seat_rows.Given as goal

abbrev pub invariant-loop-seat : goal.invariant-loop-seat
invariant-loop-seat l = map (λ row. row.items) l.rows.items ≡ map (seat_row (map record_seen l.matches)) (below l.seat)
