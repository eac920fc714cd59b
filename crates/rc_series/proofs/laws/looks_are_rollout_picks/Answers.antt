use Rattle.std.proofs.Common.{length}
use Rattle.rc_series.proofs.laws.looks_are_rollout_picks.Goals as goal

pub returns : goal.returns
returns c = λ about plan fits formed sight. c.each_rollout_pick_asks.ensures.all about plan (length plan.matches) fits formed sight
