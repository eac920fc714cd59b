use Rattle.std.proofs.Common.{◌≡◌, drop}
use Rattle.rc_base.specs.Numbers.{below}
use Rattle.rc_value.specs.Comparing.{suits}
use Rattle.rc_value.specs.Over.{over}
use Rattle.rc_value.specs.Scene.{scene_seen}
use Rattle.rc_value.proofs.comparing.over_each.Given as goal

abbrev pub invariant-loop-player : goal.invariant-loop-player
invariant-loop-player l =
    over l.any (suits (scene_seen l.scene) l.suited) (drop l.player (below l.scene.sheet.now.players))
    ≡ over l.any (suits (scene_seen l.scene) l.suited) (below (scene_seen l.scene).known.sheet.players)
