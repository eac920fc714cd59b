use Rattle.std.proofs.Common.{◌≡◌, map, take}
use Rattle.rc_view.specs.Seen.{sight_seen}
use Rattle.rc_view.proofs.view.copy_sights.Given as goal

abbrev pub invariant-loop-sight : goal.invariant-loop-sight
invariant-loop-sight l = map sight_seen l.copy.items ≡ map sight_seen (take l.sight-index l.sights)
