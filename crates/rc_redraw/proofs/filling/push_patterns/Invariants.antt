use Rattle.std.proofs.Common.{◌≡◌, ◌+◌, ◌++◌, length, map, drop}
use Rattle.rc_play_spec.specs.Redraw.{mems_of, seen_faces}
use Rattle.rc_view.specs.Seen.{sight_seen}
use Rattle.rc_redraw.specs.Hiding.{patterns}
use Rattle.rc_redraw.proofs.filling.push_patterns.Given as goal

abbrev pub invariant-loop-loc : goal.invariant-loop-loc
invariant-loop-loc l =
    let mems = mems_of l.shape.places in
    let sights = map sight_seen l.sights in
    (l.pattern.items ++ patterns (drop l.loc mems) (drop l.loc sights) (drop l.from l.seen) ≡ patterns mems sights l.seen)
    × (l.from + length (seen_faces (drop l.loc mems) (drop l.loc sights)) ≡ length l.seen)
