use Rattle.std.proofs.Common.{◌≡◌, ◌≤◌, ◌++◌, [], length, map, take, drop}
use Rattle.rc_play_spec.specs.Menu.{spots_of, from_each, item_of}
use Rattle.rc_rules.specs.Menu.{menu_seen}
use Rattle.rc_value.specs.Scene.{scene_seen}
use Rattle.rc_menu.proofs.menu.make_offers.Given as goal

abbrev pub invariant-loop-number : goal.invariant-loop-number
invariant-loop-number l = record {
  few : length l.menu.items ≤ 256;
  told : take 256 (menu_seen l.menu.items ++ map item_of (from_each (spots_of (scene_seen l.scene) []) l.number (drop l.number l.offers)))
      ≡ take 256 (map item_of (from_each (spots_of (scene_seen l.scene) []) 0 l.offers));
}
