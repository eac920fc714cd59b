use Rattle.std.proofs.Common.{◌≡◌, ◌++◌, ◌≤◌, drop, length}
use Rattle.std.specs.List.{filter}
use Rattle.rc_play_spec.specs.Value.{cut}
use Rattle.rc_value.specs.Cards.{values_seen}
use Rattle.rc_value.specs.Scene.{scene_seen}
use Rattle.rc_value.specs.Sought.{sought_value}
use Rattle.rc_value.proofs.sought.add_each.Given as goal

abbrev pub invariant-loop-place : goal.invariant-loop-place
invariant-loop-place l = record {
  few : length l.out.items ≤ 512;
  told : cut (values_seen l.out.items ++ filter (sought_value (scene_seen l.scene) l.sought) (drop l.place l.cards))
      ≡ cut (values_seen l.fn.out.items ++ filter (sought_value (scene_seen l.scene) l.sought) l.cards);
}
