use Rattle.std.proofs.Common.{◌≡◌, map, take}
use Rattle.rc_play_spec.specs.View.{sights_of as sights_of_lists}
use Rattle.rc_view.specs.Seen.{sight_seen}
use Rattle.rc_view.proofs.sight.sights_of.Given as goal

abbrev pub invariant-loop-loc : goal.invariant-loop-loc
invariant-loop-loc l =
    map sight_seen l.sights.items ≡ sights_of_lists l.shape l.table.table.marks l.seat l.shape.places (take l.loc l.table.table.lists)
