use Rattle.std.proofs.Common.{◌≡◌, length}
use Rattle.rc_play_spec.specs.Owners as owners
use Rattle.rc_rules.specs.Control.{frames_seen}
use Rattle.rc_rules.proofs.stages.current_in.Given as goal

-- the frames that are left have the same member
abbrev pub invariant-loop-frame : goal.invariant-loop-frame
invariant-loop-frame l =
    owners.current_in l.about.sheet l.class (frames_seen l.rest) ≡ owners.current_in l.fn.about.sheet l.fn.class (frames_seen l.fn.frames)

abbrev pub decreases-loop-frame : goal.decreases-loop-frame
decreases-loop-frame l = length l.rest
