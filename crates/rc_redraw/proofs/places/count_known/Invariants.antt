use Rattle.std.proofs.Common.{◌≡◌, ◌+◌, ◌≤◌, length, drop}
use Rattle.rc_play_spec.specs.Redraw.{known_faces}
use Rattle.rc_redraw.proofs.places.count_known.Given as goal

abbrev pub invariant-loop-at : goal.invariant-loop-at
invariant-loop-at l = (l.count + length (known_faces (drop l.at l.numbers)) ≡ length (known_faces l.numbers)) × (l.count ≤ l.at)
