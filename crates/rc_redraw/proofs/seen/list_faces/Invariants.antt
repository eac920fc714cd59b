use Rattle.std.proofs.Common.{◌≡◌, ◌++◌, map, drop}
use Rattle.rc_play_spec.specs.Redraw.{mems_of, seen_faces}
use Rattle.rc_view.specs.Seen.{sight_seen}
use Rattle.rc_redraw.proofs.seen.list_faces.Given as goal

abbrev pub invariant-loop-loc : goal.invariant-loop-loc
invariant-loop-loc l =
    l.faces.items ++ seen_faces (drop l.loc (mems_of l.shape.places)) (drop l.loc (map sight_seen l.sights))
    ≡ seen_faces (mems_of l.shape.places) (map sight_seen l.sights)
