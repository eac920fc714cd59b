use Rattle.std.proofs.Common.{◌≡◌, ◌+◌, ◌++◌, length, map, take, drop}
use Rattle.rc_play_spec.specs.Redraw.{mems_of, seen_faces, hidden_count, filled}
use Rattle.rc_view.specs.Seen.{sight_seen}
use Rattle.rc_redraw.proofs.filling.fill_lists.Given as goal

abbrev pub invariant-loop-loc : goal.invariant-loop-loc
invariant-loop-loc l =
    let mems = mems_of l.shape.places in
    let sights = map sight_seen l.sights in
    (take l.loc (map (λ list. list.items) l.lists.items) ++ filled (drop l.loc mems) (drop l.loc sights) (drop l.seen_from l.seen) (drop l.hidden_from l.hidden)
    ≡ filled mems sights l.seen l.hidden)
    × (l.seen_from + length (seen_faces (drop l.loc mems) (drop l.loc sights)) ≡ length l.seen)
    × (l.hidden_from + hidden_count (drop l.loc mems) (drop l.loc sights) ≡ length l.hidden)
    × (length l.lists.items ≡ length l.shape.places)
