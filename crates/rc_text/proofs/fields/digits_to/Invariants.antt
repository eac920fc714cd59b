use Rattle.std.proofs.Common.{◌≡◌, ◌≤◌, ◌-◌, length, drop}
use Rattle.rc_play_spec.specs.Fields.{digits_to}
use Rattle.rc_text.proofs.fields.digits_to.Given as goal

abbrev pub invariant-loop-at : goal.invariant-loop-at
invariant-loop-at l =
    record {
      reads : digits_to l.most l.n (drop l.at l.bytes) ≡ digits_to l.most l.from l.bytes;
      within : l.n ≤ l.most;
      inside : l.at ≤ length l.bytes;
    }

abbrev pub decreases-loop-at : goal.decreases-loop-at
decreases-loop-at l = length l.bytes - l.at
