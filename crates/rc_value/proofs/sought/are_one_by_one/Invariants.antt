use Rattle.std.proofs.Common.{◌≡◌, drop}
use Rattle.rc_value.specs.Over.{over}
use Rattle.rc_value.specs.Scene.{scene_seen}
use Rattle.rc_value.specs.Sought.{sought_value}
use Rattle.rc_value.proofs.sought.are_one_by_one.Given as goal

abbrev pub invariant-loop-place : goal.invariant-loop-place
invariant-loop-place l =
    over l.any (sought_value (scene_seen l.scene) l.sought) (drop l.place l.cards) ≡ over l.any (sought_value (scene_seen l.scene) l.sought) l.cards
