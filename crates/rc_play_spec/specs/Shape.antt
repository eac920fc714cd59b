-- The shape of a sheet: each player's team, of which kind and whose each location is, how many numbers there are, and each
-- card's face and first location.
use Rattle.std.specs.Prelude.{ℕ, ◌==◌, Bool, true, false, ◌&&◌, List, [], ◌∷◌, length, map, flat_map, slice_index_or, take, replicate, sum_by, Option, Some, None}
use Rattle.std.specs.List.{position_or_len}
use Rattle.rc_base.specs.Numbers.{below}
use Rattle.rc_base.specs.Deck.{Face}
use Rattle.rc_deck.specs.Product.{faces_of_groups}
use Rattle.rc_sheet_spec.specs.Sheet.{Teams, Class, LocKind, LocName, DeckLine, Sheet}
use Rattle.rc_sheet_spec.specs.WellFormed.{is_among, is_mem, owner_count}

-- a location: its kind, and its owner by class and number
pub record Place : Type 0 where
  pub kind : LocKind
  pub class : Class
  pub owner : ℕ

-- Locations and numbers are numbered by their order.
pub record Shape : Type 0 where
  pub players : ℕ
  pub team_of : List ℕ
  pub places : List Place
  pub numbers : ℕ
  pub faces : List Face
  pub home : List ℕ

-- the locations of a name, one for each owner of its class
abbrev pub places_of : Sheet → LocName → List Place
places_of sheet name =
    map (λ n. record { kind = name.kind; class = name.class; owner = n }) (below (owner_count sheet name.class))

-- the locations in their order: by the first mention of their names, then by the owners
abbrev pub places : Sheet → List Place
places sheet = flat_map (places_of sheet) sheet.locs

-- the first team that has the player
abbrev pub team_among : Teams → ℕ → ℕ
team_among teams player = position_or_len (is_among player) teams

-- the player's team; without teams each player is one
abbrev pub team_in : Option Teams → ℕ → ℕ
team_in None player = player
team_in (Some teams) player = team_among teams player

-- how many locations stand before those of a name
abbrev pub first_loc : Sheet → List LocName → ℕ → ℕ
first_loc sheet names name = sum_by (λ loc. owner_count sheet loc.class) (take name names)

-- the homes of a deck's cards: the deck's one location
abbrev pub homes_of : Sheet → DeckLine → List ℕ
homes_of sheet line = replicate (length (faces_of_groups line.groups)) (first_loc sheet sheet.locs line.loc)

-- cards come in the order of the decks, and within a deck in the order of its faces
abbrev pub shape_of : Sheet → Shape
shape_of sheet =
    record {
      players = sheet.players;
      team_of = map (team_in sheet.teams) (below sheet.players);
      places = places sheet;
      numbers = sum_by (λ num. owner_count sheet num.class) sheet.nums;
      faces = flat_map (λ line. faces_of_groups line.groups) sheet.decks;
      home = flat_map (homes_of sheet) sheet.decks;
    }

-- the team of a player
abbrev pub team_at : Shape → ℕ → ℕ
team_at shape player = slice_index_or shape.team_of player 0

-- the face of a card
abbrev pub face_at : Shape → ℕ → Face
face_at shape id = slice_index_or shape.faces id []

abbrev pub face_eq : Face → Face → Bool
face_eq [] [] = true
face_eq [] (pair ∷ face) = false
face_eq (pair ∷ face) [] = false
face_eq (pair ∷ face) (pair' ∷ face') = (pair.0 == pair'.0) && ((pair.1 == pair'.1) && face_eq face face')

-- the smallest id with the same face
abbrev pub face_number : Shape → ℕ → ℕ
face_number shape id = position_or_len (face_eq (face_at shape id)) shape.faces

-- whether a location holds references to cards, and not cards
abbrev pub holds_references : Option Place → Bool
holds_references None = false
holds_references (Some place) = is_mem place.kind
