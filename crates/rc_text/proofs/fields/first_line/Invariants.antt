use Rattle.std.proofs.Common.{◌≤◌, ◌-◌, length, take}
use Rattle.rc_play_spec.specs.HouseText.{IsOneLine}
use Rattle.rc_text.proofs.fields.first_line.Given as goal

abbrev pub invariant-loop-at : goal.invariant-loop-at
invariant-loop-at l =
    record {
      one : IsOneLine (take l.at l.bytes);
      inside : l.at ≤ length l.bytes;
    }

abbrev pub decreases-loop-at : goal.decreases-loop-at
decreases-loop-at l = length l.bytes - l.at
