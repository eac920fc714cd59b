use Rattle.std.proofs.Common.{not, refl, ap, ◌∙◌}
use Rattle.rc_rules.specs.Plan.{deal_seen}
use Rattle.rc_plan.proofs.CountLemmas.{counted_on}
use Rattle.rc_plan.proofs.draft.count_from.Goals as goal

pub loop-m-preserved : goal.loop-m-preserved
loop-m-preserved c =
    counted_on (deal_seen c.args.first) c.loop-m.m c.loop-m.deals.items c.push.new.self.items _ _ c.push.ensures.items
    (c.is_err.ensures.negation ∙ ap not c.if-is_err.false) refl c.loop-m.invariant
