use Rattle.std.proofs.Common.{◌≡◌, ◌+◌, ◌≤◌, length, drop}
use Rattle.rc_view.specs.Key.{known_places}
use Rattle.rc_view.proofs.key.known_count.Given as goal

abbrev pub invariant-loop-at : goal.invariant-loop-at
invariant-loop-at l = (l.count + length (known_places l.at (drop l.at l.numbers)) ≡ length (known_places 0 l.numbers)) × (l.count ≤ l.at)
