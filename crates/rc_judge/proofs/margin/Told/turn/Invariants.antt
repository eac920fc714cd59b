use Rattle.std.proofs.Common.{◌≡◌, length}
use Rattle.rc_judge.specs.Seen.{marks_left}
use Rattle.rc_judge.proofs.margin.Told.turn.Given as goal

abbrev pub invariant-loop-list : goal.invariant-loop-list
invariant-loop-list l = marks_left l.self.here.now l.self.later.now ≡ marks_left l.initial.self.here.now l.initial.self.later.now

abbrev pub decreases-loop-list : goal.decreases-loop-list
decreases-loop-list l = length l.self.later.now
