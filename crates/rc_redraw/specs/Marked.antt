-- Bytes of marks that are written card by card.
use Rattle.std.specs.Prelude.{ℕ, List, [], ◌∷◌, slice_set}

abbrev pub marked_by : ℕ → List ℕ → List ℕ → List ℕ
marked_by seats [] marks = marks
marked_by seats (id ∷ ids) marks = marked_by seats ids (slice_set marks id seats)
