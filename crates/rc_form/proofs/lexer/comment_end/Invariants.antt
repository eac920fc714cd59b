use Rattle.std.proofs.Common.{length, ◌-◌, ◌≡◌, ◌≤◌, drop}
use Rattle.rc_base.specs.Token.{tokens_from, in_comment}
use Rattle.rc_form.proofs.lexer.comment_end.Given as goal

abbrev pub invariant-loop-at : goal.invariant-loop-at
invariant-loop-at l =
    record {
      within : l.at ≤ length l.text;
      forward : l.from ≤ l.at;
      passed : tokens_from in_comment l.from (drop l.from l.text) ≡ tokens_from in_comment l.at (drop l.at l.text);
    }

abbrev pub decreases-loop-at : goal.decreases-loop-at
decreases-loop-at l = length l.text - l.at
