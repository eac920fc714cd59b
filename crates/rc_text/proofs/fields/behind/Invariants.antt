use Rattle.std.proofs.Common.{◌≡◌, ◌≤◌, ◌-◌, length, drop}
use Rattle.rc_play_spec.specs.Fields.{behind}
use Rattle.rc_text.proofs.fields.behind.Given as goal

abbrev pub invariant-loop-at : goal.invariant-loop-at
invariant-loop-at l =
    record {
      same : behind (drop l.at l.word) (drop l.at l.bytes) ≡ behind l.word l.bytes;
      within : l.at ≤ length l.word;
      fits : length l.word ≤ length l.bytes;
    }

abbrev pub decreases-loop-at : goal.decreases-loop-at
decreases-loop-at l = length l.word - l.at
