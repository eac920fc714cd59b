use Rattle.std.proofs.Common.{map, false}
use Rattle.rc_play_spec.specs.Faults.{match}
use Rattle.rc_rules.specs.Plan.{deal_seen}
use Rattle.rc_plan.specs.Reads.{IsDeal}
use Rattle.rc_plan.proofs.Turns.{read_all}
use Rattle.rc_plan.proofs.matches.read_deals.Goals as goal

pub returns : goal.returns
returns c =
    read_all IsDeal (match false) (map deal_seen c.loop-part.deals.items) c.args.parts.now c.loop-part.part-index c.loop-part-test.false c.loop-part.invariant
