-- Parts of lines that come in a row.
use Rattle.std.specs.Prelude.{ℕ, zero, suc, ◌==◌, nat_lt, Bool, true, false, ◌&&◌, if◌then◌else◌, List, [], ◌∷◌, length}
use Rattle.std.specs.Prelude.{codes, ℤ, Option, Some, None}
use Rattle.rc_base.specs.Clamp.{largest_number}
use Rattle.rc_play_spec.specs.Shape.{Shape, face_number}
use Rattle.rc_play_spec.specs.Fields.{◌>>=◌, ◌or_else◌, behind, number, integer, last}

-- so many numbers of at most `most`, each behind a space, and nothing behind them
abbrev pub counts_in : (count most : ℕ) → List ℕ → Option (List ℕ)
counts_in zero most bytes = last [] bytes
counts_in (suc count) most bytes = do
  n ← number (codes " ") most bytes
  ns ← counts_in count most n.1
  Some (n.0 ∷ ns)

-- the same for numbers of a game
abbrev pub integers_in : (count : ℕ) → List ℕ → Option (List ℤ)
integers_in zero bytes = last [] bytes
integers_in (suc count) bytes = do
  n ← integer (codes " ") largest_number bytes
  ns ← integers_in count n.1
  Some (n.0 ∷ ns)

-- a number that is the number of a face: the smallest id that has it
abbrev pub is_face : Shape → ℕ → Bool
is_face shape n = nat_lt n (length shape.faces) && (face_number shape n == n)

abbrev pub as_face : Shape → ℕ × List ℕ → Option (Option ℕ × List ℕ)
as_face shape x = if is_face shape x.0 then Some (Some x.0, x.1) else None

-- a face's number behind a space
abbrev pub face_in : Shape → List ℕ → Option (Option ℕ × List ℕ)
face_in shape bytes = number (codes " ") 65535 bytes >>= as_face shape

-- a card whose face isn't known
abbrev pub hidden_in : List ℕ → Option (Option ℕ × List ℕ)
hidden_in bytes = behind (codes " -") bytes >>= λ rest. Some (None, rest)

-- a card of a location that is seen, or of one that isn't
abbrev pub card_in : Shape → (seen : Bool) → List ℕ → Option (Option ℕ × List ℕ)
card_in shape true bytes = face_in shape bytes
card_in shape false bytes = face_in shape bytes or_else hidden_in bytes

-- The cards up to the end, at most `most` of them. As many as there are bytes are never too few.
abbrev pub cards_in : Shape → (seen : Bool) → (most : ℕ) → List ℕ → Option (List (Option ℕ))
cards_in shape seen most [] = Some []
cards_in shape seen zero (b ∷ bytes) = None
cards_in shape seen (suc most) (b ∷ bytes) = do
  card ← card_in shape seen (b ∷ bytes)
  cards ← cards_in shape seen most card.1
  Some (card.0 ∷ cards)
