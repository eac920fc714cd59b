-- The row of a site, where it has a choice.
use Rattle.std.specs.Prelude.{ℕ, nat_lt, if◌then◌else◌, List, [], ◌∷◌, ℤ}
use Rattle.rc_measure.specs.Tally.{Tally}
use Rattle.rc_measure.specs.Measures.{tally_row}

abbrev pub rows_of_site : ℕ → Tally → List (List ℤ)
rows_of_site site t = if nat_lt 0 t.choices then tally_row site t ∷ [] else []
