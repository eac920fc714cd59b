use Rattle.std.proofs.Common.{◌≡◌, ◌<◌, ◌++◌, ◌∷◌, [], length, map, take, drop}
use Rattle.std.specs.Prelude.{if◌then◌else◌}
use Rattle.rc_play_spec.specs.Menu.{from_each}
use Rattle.rc_rules.specs.Menu.{item_seen, menu_seen}
use Rattle.rc_menu.specs.Asks.{joined, met_value}
use Rattle.rc_menu.specs.Menu.{extended}
use Rattle.rc_menu.proofs.offering.offer_joined.Given as goal

abbrev pub invariant-loop-place : goal.invariant-loop-place
invariant-loop-place l = record {
  free : length l.menu.items < 256;
  told : take 256 (menu_seen l.menu.items ++ map (extended (item_seen l.item)) (from_each (λ id. if joined l.any (map (met_value id) l.asks) then [] ∷ [] else []) l.place (drop l.place l.ids)))
      ≡ take 256 (menu_seen l.fn.menu.items ++ map (extended (item_seen l.item)) (from_each (λ id. if joined l.any (map (met_value id) l.asks) then [] ∷ [] else []) 0 l.ids));
}
