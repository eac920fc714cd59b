use Rattle.std.proofs.Common.{◌≡◌, ◌-◌, ◌<◌, All, length}
use Rattle.rc_part_tests.proofs.claims.claim_all.Given as goal

abbrev pub invariant-loop-number : goal.invariant-loop-number
invariant-loop-number l =
    record {
      own : l.pass.table ≡ l.claims.table;
      counted : All (λ n. n < l.claims.count) l.pass.numbers;
    }

abbrev pub decreases-loop-number : goal.decreases-loop-number
decreases-loop-number l = l.claims.count - length l.pass.numbers
