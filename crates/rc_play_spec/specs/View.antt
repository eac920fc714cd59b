-- What a seat sees of a match, and the scene that this is for expressions.
use Rattle.std.specs.Prelude.{ℕ, Bool, true, false, if◌then◌else◌, List, [], ◌∷◌, map, filter_map, slice_get, ℤ, Option, Some, None, unwrap_or}
use Rattle.rc_sheet_spec.specs.Sheet.{Sheet}
use Rattle.rc_play_spec.specs.Control.{Control}
use Rattle.rc_play_spec.specs.Shape.{Place, Shape, face_at, face_number}
use Rattle.rc_play_spec.specs.Sees.{sees_place}
use Rattle.rc_play_spec.specs.Table.{Table, is_marked}
use Rattle.rc_play_spec.specs.Value.{Scene}

-- The numbers of the faces of a location's cards; or for each place the number where the seat knows the card there, and nothing where
-- it doesn't.
pub data Sight : Type 0 where
  with_faces : (numbers : List ℕ) → Sight
  partly : (numbers : List (Option ℕ)) → Sight

pub record View : Type 0 where
  pub seat : ℕ
  pub control : Control
  pub numbers : List ℤ
  pub sights : List Sight

-- the number of a card's face where it is marked for the seat
abbrev pub known_face : Shape → List (List ℕ) → ℕ → ℕ → Option ℕ
known_face shape marks seat id = if is_marked marks seat id then Some (face_number shape id) else None

-- what the seat sees of a location, which it sees or doesn't
abbrev pub sight_of : Shape → List (List ℕ) → ℕ → Bool → List ℕ → Sight
sight_of shape marks seat true ids = with_faces (map (face_number shape) ids)
sight_of shape marks seat false ids = partly (map (known_face shape marks seat) ids)

-- what the seat sees of each list, in the order of the locations
abbrev pub sights_of : Shape → List (List ℕ) → ℕ → List Place → List (List ℕ) → List Sight
sights_of shape marks seat places [] = []
sights_of shape marks seat [] (ids ∷ lists) = sight_of shape marks seat false ids ∷ sights_of shape marks seat [] lists
sights_of shape marks seat (place ∷ places) (ids ∷ lists) =
    sight_of shape marks seat (sees_place shape seat (Some place)) ids ∷ sights_of shape marks seat places lists

abbrev pub view_of : Shape → ℕ → Table → Control → View
view_of shape seat table control =
    record {
      seat = seat;
      control = control;
      numbers = table.numbers;
      sights = sights_of shape table.marks seat shape.places table.lists;
    }

-- As many cards as there are, with their faces' numbers where the location is seen. Of the others only how many there are is ever
-- read, since guards and domains keep the sight rule; each that isn't known stands here with the number 0.
abbrev pub seen_cards : Option Sight → List ℕ
seen_cards None = []
seen_cards (Some (with_faces fs)) = fs
seen_cards (Some (partly os)) = map (λ o. unwrap_or o 0) os

-- the cards that are seen, wherever they are
abbrev pub known_cards : Option Sight → List ℕ
known_cards None = []
known_cards (Some (with_faces fs)) = fs
known_cards (Some (partly os)) = filter_map (λ o. o) os

-- what expressions are read in by one who knows no more than the view: a card is the number of its face
abbrev pub view_scene : Sheet → Shape → View → Scene ℕ
view_scene sheet shape view =
    record {
      known = record { sheet = sheet; shape = shape; numbers = view.numbers; frames = view.control.frames };
      cards_at = λ n. seen_cards (slice_get view.sights n);
      known_at = λ n. known_cards (slice_get view.sights n);
      face = face_at shape;
    }
