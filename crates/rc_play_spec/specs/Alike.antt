-- Which states are alike to a seat. It doesn't speak of views.
use Rattle.std.specs.Prelude.{◌≡◌, ℕ, true, false, if◌then◌else◌, List, length, slice_get, Option, Some, None, option_map}
use Rattle.rc_base.specs.Deck.{Face}
use Rattle.rc_play_spec.specs.Control.{Control}
use Rattle.rc_play_spec.specs.Shape.{Shape, face_at}
use Rattle.rc_play_spec.specs.Sees.{sees}
use Rattle.rc_play_spec.specs.Table.{Table, is_marked}

-- the face of the card in this place of a list, if there is such a place
abbrev pub face_in : Shape → ℕ → Option (List ℕ) → Option Face
face_in shape k None = None
face_in shape k (Some ids) = option_map (face_at shape) (slice_get ids k)

-- a card's face where it is marked for the seat
abbrev pub marked_face : Shape → List (List ℕ) → ℕ → ℕ → Option Face
marked_face shape marks seat id = if is_marked marks seat id then Some (face_at shape id) else None

-- the same of the card in this place of a list, if there is such a place
abbrev pub marked_in : Shape → List (List ℕ) → ℕ → ℕ → Option (List ℕ) → Option (Option Face)
marked_in shape marks seat k None = None
marked_in shape marks seat k (Some ids) = option_map (marked_face shape marks seat) (slice_get ids k)

-- Control, numbers and all lengths are equal, and so is each face that the seat sees. At each place of a location that it doesn't see
-- either both cards are marked for it and have one face, or neither is.
pub record IsAlike (shape : Shape) (seat : ℕ) (table table' : Table) (control control' : Control) : Type 0 where
  pub controls : control ≡ control'
  pub numbers : table.numbers ≡ table'.numbers
  pub lengths : (loc : ℕ) → option_map (λ ids. length ids) (slice_get table.lists loc)
      ≡ option_map (λ ids. length ids) (slice_get table'.lists loc)
  pub faces : (loc k : ℕ) → sees shape seat loc ≡ true →
      face_in shape k (slice_get table.lists loc) ≡ face_in shape k (slice_get table'.lists loc)
  pub marks : (loc k : ℕ) → sees shape seat loc ≡ false →
      marked_in shape table.marks seat k (slice_get table.lists loc)
      ≡ marked_in shape table'.marks seat k (slice_get table'.lists loc)
