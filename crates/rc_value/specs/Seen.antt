-- Scopes and collections as the definitions have them.
use Rattle.std.specs.Prelude.{ℕ, List, map, Option, Some, None}
use Rattle.rc_play_spec.specs.Value.{Bind as PureBind, player_bound, card_bound, group_bound}
use Rattle.rc_play_spec.specs.Scene.{CardValue, held, noted}
use Rattle.rc_value.specs.declared.scope.Bind.{Bind}
use Rattle.rc_value.specs.declared.scope.Bind.TheVariants.{Player, Card as CardBind, Group}
use Rattle.rc_value.specs.declared.collection.Listing.{Listing}
use Rattle.rc_value.specs.declared.collection.Listing.TheVariants.{There, Built}
use Rattle.rc_value.specs.Cards.{value_seen, values_seen}

abbrev pub bind_seen : Bind → PureBind CardValue
bind_seen (Player n) = player_bound n
bind_seen (CardBind c) = card_bound (value_seen c)
bind_seen (Group cards) = group_bound (values_seen cards.now.items)

-- what an id of a location stands for: a reference where the location holds references
abbrev pub read_in : Option ℕ → ℕ → CardValue
read_in None id = held id
read_in (Some loc) id = noted loc id

abbrev pub listed : Listing → List CardValue
listed (There ids mem) = map (read_in mem) ids.now
listed (Built cards) = values_seen cards.now
