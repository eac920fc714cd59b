use Rattle.std.proofs.Common.{length, ◌-◌, ◌≡◌, ◌≤◌}
use Rattle.rc_form.specs.Lexer.{tokens_at}
use Rattle.rc_form.proofs.lexer.token_start.Given as goal

abbrev pub invariant-loop-at : goal.invariant-loop-at
invariant-loop-at l =
    record {
      within : l.at ≤ length l.text;
      forward : l.from ≤ l.at;
      passed : tokens_at l.text l.from ≡ tokens_at l.text l.at;
    }

abbrev pub decreases-loop-at : goal.decreases-loop-at
decreases-loop-at l = length l.text - l.at
