use Rattle.std.proofs.Common.{length, take, ◌-◌, ◌≡◌, ◌≤◌, []}
use Rattle.rc_outside.specs.Sink.{Got}
use Rattle.rc_outside.proofs.whole.write_all.Given as goal

abbrev pub invariant-loop-done : goal.invariant-loop-done
invariant-loop-done g l = record {
  within : l.done ≤ length l.piece;
  got : Got (g.O.Sink.written l.fn.sink) (g.O.Sink.written l.sink) (take l.done l.piece);
  steady : g.O.Sink.faults l.sink ≡ g.O.Sink.faults l.fn.sink;
  empty : l.piece ≡ [] → l.sink ≡ l.fn.sink;
}

abbrev pub decreases-loop-done : goal.decreases-loop-done
decreases-loop-done g l = length l.piece - l.done
