-- Menus as the definitions of play have them.
use Rattle.std.specs.Prelude.{List, map}
use Rattle.rc_play_spec.specs.Menu.{Item as PureItem}
use Rattle.rc_rules.specs.declared.menu.Item.{Item}

abbrev pub item_seen : Item → PureItem
item_seen item = record { alt = item.alt; spots = item.spots.items }

abbrev pub menu_seen : List Item → List PureItem
menu_seen items = map item_seen items

-- the items of a menu that a machine keeps
pub record Listed : Type 0 where
  pub items : List Item
