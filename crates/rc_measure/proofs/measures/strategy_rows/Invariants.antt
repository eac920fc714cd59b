use Rattle.std.proofs.Common.{◌≡◌, map}
use Rattle.rc_rules.specs.Plan.{plan_seen}
use Rattle.rc_rules.specs.Record.{record_seen}
use Rattle.rc_base.specs.Numbers.{below}
use Rattle.rc_measure.specs.Measures.{strategy_row}
use Rattle.rc_measure.proofs.measures.strategy_rows.Given as goal

abbrev pub invariant-loop-strategy : goal.invariant-loop-strategy
invariant-loop-strategy l =
    map (λ row. row.items) l.rows.items ≡ map (strategy_row (plan_seen l.plan) (map record_seen l.matches)) (below l.strategy)
