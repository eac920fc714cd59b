use Rattle.std.proofs.Common.{◌≡◌, map}
use Rattle.rc_play_spec.specs.PlanStands.{counted_from}
use Rattle.rc_rules.specs.Plan.{deal_seen}
use Rattle.rc_trick.proofs.plan.deals.Given as goal

abbrev pub invariant-loop-m : goal.invariant-loop-m
invariant-loop-m l = map deal_seen l.all.items ≡ counted_from (record { deal = l.number; seats = 1000 }) l.m
