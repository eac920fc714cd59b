-- Lists, each in a row of its own.
use Rattle.std.specs.Prelude.{ℕ, ◌<◌, ◌≤◌, List, [], length, slice_index_or}

-- lists, and how many ids each of them can have
pub record Lists : Type 0 where
  pub all : List (List ℕ)
  pub room : List ℕ

-- none of these lists has more than there is room for
abbrev pub HaveRoom : List (List ℕ) → List ℕ → Type 0
HaveRoom lists room = (at : ℕ) → at < length lists → length (slice_index_or lists at []) ≤ slice_index_or room at 0
