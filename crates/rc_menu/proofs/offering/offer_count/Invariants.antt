use Rattle.std.proofs.Common.{◌≡◌, ◌<◌, ◌++◌, ◌∷◌, [], length, map, take, drop}
use Rattle.rc_base.specs.Numbers.{below}
use Rattle.rc_play_spec.specs.Menu.{from_each}
use Rattle.rc_rules.specs.Menu.{item_seen, menu_seen}
use Rattle.rc_menu.specs.Menu.{extended}
use Rattle.rc_menu.proofs.offering.offer_count.Given as goal

abbrev pub invariant-loop-place : goal.invariant-loop-place
invariant-loop-place l = record {
  free : length l.menu.items < 256;
  told : take 256 (menu_seen l.menu.items ++ map (extended (item_seen l.item)) (from_each (λ n. [] ∷ []) l.place (drop l.place (below l.count))))
      ≡ take 256 (menu_seen l.fn.menu.items ++ map (extended (item_seen l.item)) (from_each (λ n. [] ∷ []) 0 (below l.count)));
}
