use Rattle.std.proofs.Common.{◌≡◌, ◌<◌, ◌++◌, ◌∷◌, [], length, map, take, drop}
use Rattle.std.specs.Prelude.{if◌then◌else◌, slice_index_or, Some, None}
use Rattle.rc_play_spec.specs.Menu.{from_each}
use Rattle.rc_play_spec.specs.Value.{both, nat_same}
use Rattle.rc_rules.specs.Menu.{item_seen, menu_seen}
use Rattle.rc_menu.specs.Menu.{extended}
use Rattle.rc_menu.proofs.offering.offer_having.Given as goal

abbrev pub invariant-loop-place : goal.invariant-loop-place
invariant-loop-place l = record {
  free : length l.menu.items < 256;
  told : take 256 (menu_seen l.menu.items ++ map (extended (item_seen l.item)) (from_each (λ id. if both nat_same (slice_index_or l.row id None) (Some l.value) then [] ∷ [] else []) l.place (drop l.place l.ids)))
      ≡ take 256 (menu_seen l.fn.menu.items ++ map (extended (item_seen l.item)) (from_each (λ id. if both nat_same (slice_index_or l.row id None) (Some l.value) then [] ∷ [] else []) 0 l.ids));
}
