use Rattle.std.proofs.Common.{drop, map}
use Rattle.rc_form.specs.Form.{trees_of, packed}
use Rattle.rc_play_spec.specs.Faults.{strategy}
use Rattle.rc_rules.specs.Plan.{strategy_seen}
use Rattle.rc_plan.specs.Reads.{IsReadSoFar, IsStrategy}
use Rattle.rc_plan.proofs.strategies.read_strategies.Given as goal

abbrev pub invariant-loop-part : goal.invariant-loop-part
invariant-loop-part l =
    IsReadSoFar IsStrategy strategy (map strategy_seen l.strategies.items) (packed (trees_of (drop l.part-index l.parts))) (packed (trees_of l.parts))
