use Rattle.std.proofs.Common.{◌≡◌, ◌+◌, ◌++◌, ◌≤◌, length, drop}
use Rattle.rc_play_spec.specs.Redraw.{known_faces}
use Rattle.rc_redraw.specs.Hiding.{pattern_at}
use Rattle.rc_redraw.proofs.places.push_pattern.Given as goal

abbrev pub invariant-loop-at : goal.invariant-loop-at
invariant-loop-at l =
    (l.pattern.items ++ pattern_at (drop l.at l.numbers) (drop l.known l.seen) ≡ l.initial.pattern.items ++ pattern_at l.numbers l.seen)
    × (l.known + length (known_faces (drop l.at l.numbers)) ≤ length l.seen)
