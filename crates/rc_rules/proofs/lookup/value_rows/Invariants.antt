use Rattle.std.proofs.Common.{◌≡◌, map}
use Rattle.rc_base.specs.Numbers.{below}
use Rattle.rc_rules.specs.Lookup.{rows_seen, value_row}
use Rattle.rc_rules.proofs.lookup.value_rows.Given as goal

abbrev pub invariant-loop-name : goal.invariant-loop-name
invariant-loop-name l = rows_seen l.rows.items ≡ map (value_row l.shape.faces) (below l.name)
