use Rattle.std.proofs.Common.{◌≡◌, length, take}
use Rattle.rc_value.specs.Cards.{values_seen}
use Rattle.rc_value.proofs.few.write_few.Given as goal

abbrev pub invariant-loop-place : goal.invariant-loop-place
invariant-loop-place l = (length l.out.items ≡ l.place) × (values_seen l.out.items ≡ take l.place l.cards)
