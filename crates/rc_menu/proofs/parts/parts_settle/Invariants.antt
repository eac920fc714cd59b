use Rattle.std.proofs.Common.{◌≡◌, ◌≤◌, ◌++◌, true, length, map, drop}
use Rattle.std.specs.List.{list_all}
use Rattle.rc_play_spec.specs.Scene.{CardValue}
use Rattle.rc_menu.specs.Asks.{ask_value, asks_value, joined, parts_told}
use Rattle.rc_value.specs.Scene.{scene_seen}
use Rattle.rc_menu.proofs.parts.parts_settle.Given as goal

abbrev pub invariant-loop-place : goal.invariant-loop-place
invariant-loop-place l = record {
  few : length l.asks.items ≤ l.place;
  sought : list_all asks_value l.asks.items ≡ true;
  told : (c : CardValue) → joined l.any (map (ask_value (scene_seen l.scene) l.scope c) l.asks.items ++ parts_told (scene_seen l.scene) l.scope (drop l.place l.parts) c)
      ≡ joined l.any (parts_told (scene_seen l.scene) l.scope l.parts c);
}
