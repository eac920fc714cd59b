use Rattle.std.proofs.Common.{map}
use Rattle.rc_play_spec.specs.Faults.{strategy}
use Rattle.rc_rules.specs.Plan.{strategy_seen}
use Rattle.rc_plan.specs.Reads.{IsStrategy}
use Rattle.rc_plan.proofs.Turns.{read_all}
use Rattle.rc_plan.proofs.strategies.read_strategies.Goals as goal

pub returns : goal.returns
returns c =
    read_all IsStrategy strategy (map strategy_seen c.loop-part.strategies.items) c.args.parts.now c.loop-part.part-index c.loop-part-test.false c.loop-part.invariant
