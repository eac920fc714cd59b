use Rattle.std.proofs.Common.{◌≡◌, ◌+◌, ◌++◌, ◌≤◌, length, drop}
use Rattle.rc_play_spec.specs.Redraw.{known_faces, unknown, mixed}
use Rattle.rc_redraw.proofs.places.mix.Given as goal

abbrev pub invariant-loop-at : goal.invariant-loop-at
invariant-loop-at l =
    (l.list.items ++ mixed (drop l.at l.numbers) (drop l.known l.seen) (drop l.other l.hidden) ≡ mixed l.numbers l.seen l.hidden)
    × (l.known + length (known_faces (drop l.at l.numbers)) ≤ length l.seen)
    × (l.other + unknown (drop l.at l.numbers) ≤ length l.hidden)
