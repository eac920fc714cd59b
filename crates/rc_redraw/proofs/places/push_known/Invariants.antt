use Rattle.std.proofs.Common.{◌≡◌, ◌++◌, drop}
use Rattle.rc_play_spec.specs.Redraw.{known_faces}
use Rattle.rc_redraw.proofs.places.push_known.Given as goal

abbrev pub invariant-loop-at : goal.invariant-loop-at
invariant-loop-at l = l.faces.items ++ known_faces (drop l.at l.numbers) ≡ l.initial.faces.items ++ known_faces l.numbers
