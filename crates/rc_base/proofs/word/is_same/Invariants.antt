use Rattle.std.proofs.Common.{◌≡◌, nat_eq, length}
use Rattle.std.specs.Cmp.Lexicographic.{pointwise}
use Rattle.rc_base.proofs.word.is_same.Given as goal

abbrev pub invariant-loop-byte : goal.invariant-loop-byte
invariant-loop-byte l =
    (length l.byte-iterator.a.rest.now ≡ length l.byte-iterator.b.rest.now)
    × (pointwise nat_eq l.bytes l.others ≡ pointwise nat_eq l.byte-iterator.a.rest.now l.byte-iterator.b.rest.now)
