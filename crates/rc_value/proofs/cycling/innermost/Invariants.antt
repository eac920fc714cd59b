use Rattle.std.proofs.Common.{◌≡◌, ◌≤◌, false, length, drop}
use Rattle.std.specs.List.{list_any}
use Rattle.rc_play_spec.specs.Owners.{is_stage_of}
use Rattle.rc_rules.specs.Control.{frames_seen}
use Rattle.rc_value.proofs.cycling.innermost.Given as goal

-- none of those that were passed is of the class
abbrev pub invariant-loop-at : goal.invariant-loop-at
invariant-loop-at l =
    (l.at ≤ length l.frames) × (list_any (λ frame. is_stage_of l.about.sheet l.class frame.stage) (drop l.at (frames_seen l.frames)) ≡ false)

abbrev pub decreases-loop-at : goal.decreases-loop-at
decreases-loop-at l = l.at
