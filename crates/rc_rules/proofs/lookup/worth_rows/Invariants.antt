use Rattle.std.proofs.Common.{◌≡◌, map, take}
use Rattle.rc_ast.specs.Sheet.{sheet_seen}
use Rattle.rc_rules.specs.Lookup.{rows_seen, worth_row}
use Rattle.rc_rules.proofs.lookup.worth_rows.Given as goal

abbrev pub invariant-loop-place : goal.invariant-loop-place
invariant-loop-place l = rows_seen l.rows.items ≡ map (worth_row l.shape.faces) (take l.place (sheet_seen l.sheet).points)
