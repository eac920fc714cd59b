use Rattle.std.proofs.Common.{drop, map, false}
use Rattle.rc_form.specs.Form.{trees_of, packed}
use Rattle.rc_play_spec.specs.Faults.{match}
use Rattle.rc_rules.specs.Plan.{deal_seen}
use Rattle.rc_plan.specs.Reads.{IsReadSoFar, IsDeal}
use Rattle.rc_plan.proofs.matches.read_deals.Given as goal

abbrev pub invariant-loop-part : goal.invariant-loop-part
invariant-loop-part l =
    IsReadSoFar IsDeal (match false) (map deal_seen l.deals.items) (packed (trees_of (drop l.part-index l.parts))) (packed (trees_of l.parts))
