use Rattle.std.proofs.Common.{◌≡◌, map}
use Rattle.rc_play_spec.specs.PlanStands.{counted_from}
use Rattle.rc_rules.specs.Plan.{deal_seen}
use Rattle.rc_plan.proofs.draft.count_from.Given as goal

abbrev pub invariant-loop-m : goal.invariant-loop-m
invariant-loop-m l = map deal_seen l.deals.items ≡ counted_from (deal_seen l.first) l.m
