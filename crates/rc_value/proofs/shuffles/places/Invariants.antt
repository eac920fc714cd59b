use Rattle.std.proofs.Common.{◌≡◌, length}
use Rattle.rc_base.specs.Numbers.{below}
use Rattle.rc_value.proofs.shuffles.places.Given as goal

abbrev pub invariant-loop-place : goal.invariant-loop-place
invariant-loop-place l = (l.places.items ≡ below l.place) × (length l.places.items ≡ l.place)
