use Rattle.std.proofs.Common.{length, ◌-◌, ◌+◌, ◌≡◌, ◌≤◌, drop}
use Rattle.rc_base.specs.Token.{atom_front}
use Rattle.rc_form.proofs.lexer.atom_end.Given as goal

abbrev pub invariant-loop-at : goal.invariant-loop-at
invariant-loop-at l =
    record {
      within : l.at ≤ length l.text;
      reach : l.at + length (atom_front (drop l.at l.text)) ≡ l.from + length (atom_front (drop l.from l.text));
    }

abbrev pub decreases-loop-at : goal.decreases-loop-at
decreases-loop-at l = length l.text - l.at
