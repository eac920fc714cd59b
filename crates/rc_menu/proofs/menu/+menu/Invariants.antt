use Rattle.std.proofs.Common.{◌≡◌, ◌≤◌, ◌++◌, ◌∷◌, [], length, map, take, drop}
use Rattle.rc_base.specs.Numbers.{below}
use Rattle.rc_play_spec.specs.Value.{card_bound, player_bound, group_bound}
use Rattle.rc_play_spec.specs.Menu.{spots_of, from_each}
use Rattle.rc_ast.specs.Items.{alt_seen}
use Rattle.rc_value.specs.Scene.{scene_seen}
use Rattle.rc_value.specs.Groups.{with_value}
use Rattle.rc_rules.specs.Menu.{item_seen, menu_seen}
use Rattle.rc_menu.specs.Menu.{extended}
use Rattle.rc_menu.proofs.menu.+menu.Given as goal

abbrev pub invariant-offer_each-loop-place : goal.invariant-offer_each-loop-place
invariant-offer_each-loop-place l = record {
  few : length l.menu.items ≤ 256;
  told : take 256 (menu_seen l.menu.items ++ map (extended (item_seen l.item)) (from_each (λ m. spots_of (scene_seen l.scene) (l.scope ++ m ∷ []) (alt_seen l.inner)) l.place (drop l.place (map (λ c. card_bound c) l.cards))))
      ≡ take 256 (menu_seen l.fn.menu.items ++ map (extended (item_seen l.item)) (from_each (λ m. spots_of (scene_seen l.scene) (l.scope ++ m ∷ []) (alt_seen l.inner)) 0 (map (λ c. card_bound c) l.cards)));
}

abbrev pub invariant-offer_each_player-loop-player : goal.invariant-offer_each_player-loop-player
invariant-offer_each_player-loop-player l = record {
  few : length l.menu.items ≤ 256;
  told : take 256 (menu_seen l.menu.items ++ map (extended (item_seen l.item)) (from_each (λ m. spots_of (scene_seen l.scene) (l.scope ++ m ∷ []) (alt_seen l.inner)) l.player (drop l.player (map (λ n. player_bound n) (below l.scene.sheet.now.players)))))
      ≡ take 256 (menu_seen l.fn.menu.items ++ map (extended (item_seen l.item)) (from_each (λ m. spots_of (scene_seen l.scene) (l.scope ++ m ∷ []) (alt_seen l.inner)) 0 (map (λ n. player_bound n) (below l.scene.sheet.now.players))));
}

abbrev pub invariant-offer_each_group-loop-place : goal.invariant-offer_each_group-loop-place
invariant-offer_each_group-loop-place l = record {
  few : length l.menu.items ≤ 256;
  told : take 256 (menu_seen l.menu.items ++ map (extended (item_seen l.item)) (from_each (λ m. spots_of (scene_seen l.scene) (l.scope ++ m ∷ []) (alt_seen l.inner)) l.place (drop l.place (map (λ g. group_bound g) (map (with_value (scene_seen l.scene) l.name l.all) l.values.items)))))
      ≡ take 256 (menu_seen l.fn.menu.items ++ map (extended (item_seen l.item)) (from_each (λ m. spots_of (scene_seen l.scene) (l.scope ++ m ∷ []) (alt_seen l.inner)) 0 (map (λ g. group_bound g) (map (with_value (scene_seen l.scene) l.name l.all) l.values.items))));
}
