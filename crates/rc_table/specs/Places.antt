-- Locations as the definitions of play have them.
use Rattle.std.specs.Prelude.{ℕ}
use Rattle.rc_sheet_spec.specs.Sheet.{Class, game_class, player_class, team_class}
use Rattle.rc_play_spec.specs.Shape.{Place as PurePlace}
use Rattle.rc_table.specs.declared.place.Owner.{Owner}
use Rattle.rc_table.specs.declared.place.Owner.TheVariants.{Game, Player, Team}
use Rattle.rc_table.specs.declared.place.Place.{Place}

abbrev pub class_of : Owner → Class
class_of Game = game_class
class_of (Player n) = player_class
class_of (Team n) = team_class

abbrev pub number_of : Owner → ℕ
number_of Game = 0
number_of (Player n) = n
number_of (Team n) = n

abbrev pub place_seen : Place → PurePlace
place_seen place = record { kind = place.kind; class = class_of place.owner; owner = number_of place.owner }
