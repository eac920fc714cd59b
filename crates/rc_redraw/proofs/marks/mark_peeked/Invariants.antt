use Rattle.std.proofs.Common.{◌≡◌, ◌+◌, length, map, drop, replicate}
use Rattle.rc_play_spec.specs.Redraw.{mems_of, seen_faces, peeked}
use Rattle.rc_view.specs.Seen.{sight_seen}
use Rattle.rc_redraw.specs.Marked.{marked_by}
use Rattle.rc_redraw.proofs.marks.mark_peeked.Given as goal

abbrev pub invariant-loop-loc : goal.invariant-loop-loc
invariant-loop-loc l =
    let mems = mems_of l.shape.places in
    let sights = map sight_seen l.sights in
    (length l.marks.items ≡ length l.shape.faces)
    × (marked_by l.seats (peeked (drop l.loc mems) (drop l.loc sights) (drop l.from l.seen)) l.marks.items
    ≡ marked_by l.seats (peeked mems sights l.seen) (replicate (length l.shape.faces) 0))
    × (l.from + length (seen_faces (drop l.loc mems) (drop l.loc sights)) ≡ length l.seen)
