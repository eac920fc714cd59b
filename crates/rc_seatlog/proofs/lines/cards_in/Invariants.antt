use Rattle.std.proofs.Common.{◌≡◌, ◌≤◌, ◌+◌, ◌-◌, ◌++◌, length, Some, false}
use Rattle.rc_play_spec.specs.Fields.{◌>>=◌}
use Rattle.rc_log_spec.specs.Fields.{cards_in}
use Rattle.rc_seatlog.proofs.lines.cards_in.Given as goal

-- what is left gives what is missing
abbrev pub invariant-loop-rest : goal.invariant-loop-rest
invariant-loop-rest l =
    record {
      reads : (cards_in l.shape false (length l.bytes - length l.cards.items) l.rest >>= λ more. Some (l.cards.items ++ more))
          ≡ cards_in l.shape false (length l.bytes) l.bytes;
      shorter : length l.rest + length l.cards.items ≤ length l.bytes;
    }

abbrev pub decreases-loop-rest : goal.decreases-loop-rest
decreases-loop-rest l = length l.rest
