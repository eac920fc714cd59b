-- The words of a state of ChaCha, whose four rows are lists of four words.
use Rattle.std.specs.Prelude.{ℕ, List, [], ◌∷◌, slice_index}

abbrev pub words_of : List ℕ → ℕ × ℕ × ℕ × ℕ
words_of vector = (slice_index vector 0, slice_index vector 1, slice_index vector 2, slice_index vector 3)

abbrev pub state_of : List ℕ × List ℕ × List ℕ × List ℕ → List ℕ
state_of rows =
    slice_index rows.0 0 ∷ slice_index rows.0 1 ∷ slice_index rows.0 2 ∷ slice_index rows.0 3
    ∷ slice_index rows.1 0 ∷ slice_index rows.1 1 ∷ slice_index rows.1 2 ∷ slice_index rows.1 3
    ∷ slice_index rows.2 0 ∷ slice_index rows.2 1 ∷ slice_index rows.2 2 ∷ slice_index rows.2 3
    ∷ slice_index rows.3 0 ∷ slice_index rows.3 1 ∷ slice_index rows.3 2 ∷ slice_index rows.3 3 ∷ []
