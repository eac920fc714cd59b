use Rattle.std.proofs.Common.{◌≡◌, ◌≤◌, ◌+◌, ◌-◌, ◌++◌, length, Some, true}
use Rattle.rc_play_spec.specs.Fields.{◌>>=◌}
use Rattle.rc_log_spec.specs.Fields.{cards_in}
use Rattle.rc_seatlog.proofs.RowLemmas.{known}
use Rattle.rc_seatlog.proofs.lines.faces_in.Given as goal

-- what is left gives what is missing
abbrev pub invariant-loop-rest : goal.invariant-loop-rest
invariant-loop-rest l =
    record {
      reads : (cards_in l.shape true (length l.bytes - length (known l.faces.items)) l.rest >>= λ more. Some (known l.faces.items ++ more))
          ≡ cards_in l.shape true (length l.bytes) l.bytes;
      shorter : length l.rest + length (known l.faces.items) ≤ length l.bytes;
    }

abbrev pub decreases-loop-rest : goal.decreases-loop-rest
decreases-loop-rest l = length l.rest
