use Rattle.std.proofs.Common.{◌≡◌, ◌≤◌, ◌-◌, length, map}
use Rattle.rc_play_spec.specs.Bounds.{marks_in}
use Rattle.rc_rules.specs.Bounds.{bound_seen}
use Rattle.rc_text.proofs.MarkSteps.{behind_marks}
use Rattle.rc_text.proofs.bounds.bounds_in.Given as goal

-- what is read behind the marks so far is what is read from the start
abbrev pub invariant-loop-rest : goal.invariant-loop-rest
invariant-loop-rest l =
    record {
      reads : behind_marks (map bound_seen l.bounds.items) (marks_in (4 - length l.bounds.items) l.rest) ≡ marks_in 4 l.bytes;
      few : length l.bounds.items ≤ 4;
    }

abbrev pub decreases-loop-rest : goal.decreases-loop-rest
decreases-loop-rest l = 4 - length l.bounds.items
