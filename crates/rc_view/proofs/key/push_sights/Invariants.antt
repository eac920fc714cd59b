use Rattle.std.proofs.Common.{◌≡◌, ◌++◌, map, take}
use Rattle.std.specs.Prelude.{flat_map}
use Rattle.rc_view.specs.Seen.{sight_seen}
use Rattle.rc_view.specs.Key.{sight_key}
use Rattle.rc_view.proofs.key.push_sights.Given as goal

abbrev pub invariant-loop-sight : goal.invariant-loop-sight
invariant-loop-sight l = l.bytes.items ≡ l.initial.bytes.items ++ flat_map sight_key (map sight_seen (take l.sight-index l.sights))
