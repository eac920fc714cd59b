use Rattle.std.proofs.Common.{◌≡◌, ◌++◌, length, map}
use Rattle.rc_series.proofs.sharing.lanes_of.Given as goal

abbrev pub invariant-loop-lanes : goal.invariant-loop-lanes
invariant-loop-lanes g l = l.lanes.items ++ map (λ c. c.memo) l.choosers.items ≡ map (λ c. c.memo) l.fn.choosers.items

abbrev pub decreases-loop-lanes : goal.decreases-loop-lanes
decreases-loop-lanes g l = length l.choosers.items
