use Rattle.std.proofs.Common.{◌≡◌, ◌-◌, ◌++◌, Some}
use Rattle.arrayvec.specs.ArrayVec.{array_vec_len}
use Rattle.rc_play_spec.specs.Fields.{◌>>=◌}
use Rattle.rc_log_spec.specs.Fields.{counts_in}
use Rattle.rc_seatlog.proofs.lines.counts_in.Given as goal

-- what is left gives what is missing
abbrev pub invariant-loop-i : goal.invariant-loop-i
invariant-loop-i l =
    record {
      reads : (counts_in (l.count - l.i) 4294967295 l.rest >>= λ more. Some (l.found.items ++ more)) ≡ counts_in l.count 4294967295 l.bytes;
      many : array_vec_len l.found ≡ l.i;
    }
