use Rattle.std.proofs.Common.{◌≡◌, ◌+◌, ◌≤◌, drop, length}
use Rattle.std.specs.List.{filter}
use Rattle.rc_value.specs.Scene.{scene_seen}
use Rattle.rc_value.specs.Sought.{sought_value}
use Rattle.rc_value.proofs.sought.count_one_by_one.Given as goal

abbrev pub invariant-loop-place : goal.invariant-loop-place
invariant-loop-place l = record {
  few : l.count ≤ l.place;
  told : l.count + length (filter (sought_value (scene_seen l.scene) l.sought) (drop l.place l.cards))
      ≡ length (filter (sought_value (scene_seen l.scene) l.sought) l.cards);
}
