use Rattle.std.proofs.Common.{◌≡◌, ◌++◌, map, take, flat_map}
use Rattle.std.specs.Prelude.{string_bytes}
use Rattle.rc_measure.specs.Text.{row_line}
use Rattle.rc_measure.proofs.write.write_rows.Given as goal

abbrev pub invariant-loop-row : goal.invariant-loop-row
invariant-loop-row l = string_bytes l.out ≡ string_bytes l.initial.out ++ flat_map (row_line l.word) (map (λ row. row.items) (take l.row-index l.rows))
