use Rattle.std.proofs.Common.{◌≡◌, ◌++◌, map, drop}
use Rattle.rc_play_spec.specs.Redraw.{mems_of}
use Rattle.rc_view.specs.Seen.{sight_seen}
use Rattle.rc_redraw.specs.Hiding.{hiding_from}
use Rattle.rc_redraw.proofs.filling.list_hiding.Given as goal

abbrev pub invariant-loop-loc : goal.invariant-loop-loc
invariant-loop-loc l =
    l.locs.items ++ hiding_from l.loc (drop l.loc (mems_of l.shape.places)) (drop l.loc (map sight_seen l.sights))
    ≡ hiding_from 0 (mems_of l.shape.places) (map sight_seen l.sights)
