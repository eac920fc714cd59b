use Rattle.std.proofs.Common.{◌≡◌, ◌++◌, map, length}
use Rattle.rc_series.proofs.claiming.workers_of.Given as goal

abbrev pub invariant-loop-passes : goal.invariant-loop-passes
invariant-loop-passes g l =
    record {
      passes : map (λ w. w.pass) l.workers.items ++ l.passes.items ≡ l.fn.passes.items;
      choosers : map (λ w. w.chooser) l.workers.items ++ l.choosers.items ≡ l.fn.choosers.items;
      each : length l.passes.items ≡ length l.choosers.items;
    }

abbrev pub decreases-loop-passes : goal.decreases-loop-passes
decreases-loop-passes g l = length l.choosers.items
