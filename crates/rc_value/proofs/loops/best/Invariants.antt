use Rattle.std.proofs.Common.{◌≡◌, drop, if◌then◌else◌, int_lt}
use Rattle.std.specs.List.{best_of as first_best}
use Rattle.rc_play_spec.specs.Value.{beats, worth, int_more}
use Rattle.rc_value.specs.Cards.{value_seen}
use Rattle.rc_value.specs.Scene.{scene_seen}
use Rattle.rc_value.proofs.loops.best.Given as goal

abbrev pub invariant-loop-place : goal.invariant-loop-place
invariant-loop-place l =
    first_best (beats (if l.largest then int_more else int_lt) (worth (scene_seen l.scene) l.map)) (value_seen l.found) (drop l.place l.cards)
    ≡ first_best (beats (if l.largest then int_more else int_lt) (worth (scene_seen l.scene) l.map)) (value_seen l.initial.found) (drop 1 l.cards)
