use Rattle.std.proofs.Common.{◌≡◌, ◌++◌, length, map, All}
use Rattle.rc_series.proofs.sharing.choosers_of.Given as goal

abbrev pub invariant-loop-memos : goal.invariant-loop-memos
invariant-loop-memos g l =
    record {
      memos : map (λ c. c.memo) l.choosers.items ++ l.memos.items ≡ l.fn.memos.items;
      code : All (λ c. (c.ground ≡ l.about.value) × (c.code.value ≡ l.code.value)) l.choosers.items;
    }

abbrev pub decreases-loop-memos : goal.decreases-loop-memos
decreases-loop-memos g l = length l.memos.items
