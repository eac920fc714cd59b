-- What seen card places take, said one by one: each the smallest id of its face that no place before it took.
use Rattle.std.specs.Prelude.{◌≡◌, ℕ, ◌<◌, ◌≤◌, ◌==◌, true, false, List, length, take, slice_index, count_by}
use Rattle.std.specs.List.{list_any}
use Rattle.rc_play_spec.specs.Shape.{Shape, face_number}
use Rattle.rc_play_spec.specs.Redraw.{ids_of}

pub record IsSmallestUnused (shape : Shape) (used : List ℕ) (f id : ℕ) : Type 0 where
  pub within : id < length shape.faces
  pub face : face_number shape id ≡ f
  pub free : list_any (λ other. other == id) used ≡ false
  pub least : (smaller : ℕ) → smaller < id → face_number shape smaller ≡ f →
      list_any (λ other. other == smaller) used ≡ true

-- each place takes it, where those before it took theirs
abbrev pub TakeSmallest : Shape → List ℕ → List ℕ → Type 0
TakeSmallest shape fs ids =
    (length ids ≡ length fs)
    × ((k : ℕ) → k < length fs → IsSmallestUnused shape (take k ids) (slice_index fs k) (slice_index ids k))

-- each face has as many ids as it is seen
abbrev pub AreEnough : Shape → List ℕ → Type 0
AreEnough shape fs = (f : ℕ) → count_by (λ g. g == f) fs ≤ length (ids_of shape f)
