use Rattle.std.proofs.Common.{◌≡◌, map, drop}
use Rattle.rc_menu.specs.Asks.{ask_value, joined}
use Rattle.rc_value.specs.Cards.{value_seen}
use Rattle.rc_value.specs.Scene.{scene_seen}
use Rattle.rc_menu.proofs.asks.joined_answer.Given as goal

abbrev pub invariant-loop-place : goal.invariant-loop-place
invariant-loop-place l =
    joined l.any (map (ask_value (scene_seen l.scene) l.scope (value_seen l.card)) (drop l.place l.asks))
    ≡ joined l.any (map (ask_value (scene_seen l.scene) l.scope (value_seen l.card)) l.asks)
