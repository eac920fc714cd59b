use Rattle.std.proofs.Common.{◌≡◌, ◌++◌, length}
use Rattle.rc_series.proofs.sharing.memos_of.Given as goal

abbrev pub invariant-loop-memos : goal.invariant-loop-memos
invariant-loop-memos g l = l.memos.items ++ l.lanes.items ≡ l.fn.lanes.items

abbrev pub decreases-loop-memos : goal.decreases-loop-memos
decreases-loop-memos g l = length l.lanes.items
