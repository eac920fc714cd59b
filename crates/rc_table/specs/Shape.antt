-- What a shape keeps: its parts are within the limits, each player has a team, owners are players and teams that are there, and
-- each card begins in a location of cards.
use Rattle.std.specs.Prelude.{◌≡◌, ℕ, ◌<◌, ◌≤◌, ◌+◌, true, if◌then◌else◌, length, map, List, Option, Some, None, [], ◌∷◌, All}
use Rattle.std.specs.List.{position_or_len}
use Rattle.rc_base.specs.Deck.{Face}
use Rattle.rc_base.specs.Limits.{most_players, most_cards, most_locations, most_numbers}
use Rattle.rc_sheet_spec.specs.Sheet.{Class, game_class, player_class, team_class}
use Rattle.rc_sheet_spec.specs.WellFormed.{is_among, is_mem}
use Rattle.rc_play_spec.specs.Shape.{Place as PurePlace, Shape as PureShape, face_eq}
use Rattle.rc_play_spec.specs.Bound.{HasHomes}
use Rattle.rc_table.specs.Places.{place_seen}
use Rattle.rc_table.specs.declared.place.Place.{Place}

-- the game itself, a player, or a team that a player is in
abbrev pub IsOwnerOf : PureShape → Class → ℕ → Type 0
IsOwnerOf shape game_class owner = owner ≡ 0
IsOwnerOf shape player_class owner = owner < shape.players
IsOwnerOf shape team_class owner = is_among owner shape.team_of ≡ true

pub record IsShape (shape : PureShape) : Type 0 where
  pub some_players : 1 ≤ shape.players
  pub players : shape.players ≤ most_players
  pub teams : length shape.team_of ≡ shape.players
  pub locations : length shape.places ≤ most_locations
  pub owners : All (λ (place : PurePlace). IsOwnerOf shape place.class place.owner) shape.places
  pub numbers : shape.numbers ≤ most_numbers
  pub cards : length shape.faces ≤ most_cards
  pub homes : HasHomes shape

-- a shape of these parts
abbrev pub shape_of_parts : ℕ → List ℕ → List Place → ℕ → List Face → List ℕ → PureShape
shape_of_parts players team_of places numbers faces home =
    record {
      players = players;
      team_of = team_of;
      places = map place_seen places;
      numbers = numbers;
      faces =
          faces;
      home = home;
    }

-- the number of each face: the place of the first one that equals it
abbrev pub face_numbers_of : List Face → List ℕ
face_numbers_of faces = map (λ face. position_or_len (face_eq face) faces) faces

-- the face that was found, or none
abbrev pub face_or_none : Option Face → Face
face_or_none None = []
face_or_none (Some face) = face

-- one more, where a location holds references
abbrev pub mems_here : PurePlace → ℕ
mems_here place = if is_mem place.kind then 1 else 0

-- how many of these locations hold references
abbrev pub mems_among : List PurePlace → ℕ
mems_among [] = 0
mems_among (place ∷ places) = mems_here place + mems_among places
