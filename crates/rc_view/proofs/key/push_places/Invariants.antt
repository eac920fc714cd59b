use Rattle.std.proofs.Common.{◌≡◌, ◌++◌, drop}
use Rattle.std.specs.Prelude.{flat_map}
use Rattle.rc_view.specs.Key.{known_places, place_key}
use Rattle.rc_view.proofs.key.push_places.Given as goal

abbrev pub invariant-loop-at : goal.invariant-loop-at
invariant-loop-at l =
    l.bytes.items ++ flat_map place_key (known_places l.at (drop l.at l.numbers))
    ≡ l.initial.bytes.items ++ flat_map place_key (known_places 0 l.numbers)
