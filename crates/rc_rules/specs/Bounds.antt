-- What items bind, as the definitions of play have it.
use Rattle.std.specs.Prelude.{List, map, Vec}
use Rattle.std.specs.Global.{Global}
use Rattle.arrayvec.specs.ArrayVec.{ArrayVec}
use Rattle.rc_play_spec.specs.ItemBounds.{Bound as PureBound, player, card, group}
use Rattle.rc_rules.specs.declared.bound.Bound.{Bound}
use Rattle.rc_rules.specs.declared.bound.Bound.TheVariants.{Player, Card, Group}

abbrev pub bound_seen : Bound → PureBound
bound_seen (Player n) = player n
bound_seen (Card face) = card face
bound_seen (Group face) = group face

abbrev pub bounds_seen : ArrayVec Bound → List PureBound
bounds_seen bounds = map bound_seen bounds.items

-- of the choices of a match
abbrev pub match_bounds : Vec (ArrayVec Bound) Global → List (List PureBound)
match_bounds bounds = map bounds_seen bounds.items
