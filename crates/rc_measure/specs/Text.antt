-- The text of measures. Every line ends with LF.
use Rattle.std.specs.Prelude.{◌≡◌, ℕ, List, ◌++◌, length, flat_map, slice_index_or, ℤ, pos, codes}
use Rattle.std.specs.Fmt.{signed_decimal}
use Rattle.std.specs.List.{AllByRecursion}
use Rattle.rc_base.specs.Transcript.{line}
use Rattle.rc_measure.specs.Measures.{Measures}

abbrev pub number_at : List ℤ → ℕ → List ℕ
number_at numbers place = signed_decimal (slice_index_or numbers place (pos 0))

-- a fraction as it is
abbrev pub fraction_line : List ℕ → List ℤ → List ℕ
fraction_line word fraction = line (word ++ number_at fraction 0 ++ codes "/" ++ number_at fraction 1)

-- numbers, each behind a space
abbrev pub spaced : List ℤ → List ℕ
spaced row = flat_map (λ n. codes " " ++ signed_decimal n) row

abbrev pub row_line : List ℕ → List ℤ → List ℕ
row_line word row = line (word ++ spaced row)

-- the format's line, and how many matches there are
abbrev pub matches_text : Measures → List ℕ
matches_text m =
    line (codes "measure 1")
    ++ line (codes "matches " ++ number_at m.matches 0 ++ codes " limits " ++ number_at m.matches 1)

-- the lines of two numbers
abbrev pub head_text : Measures → List ℕ
head_text m =
    matches_text m
    ++ fraction_line (codes "choices ") m.choices
    ++ fraction_line (codes "forced ") m.forced
    ++ fraction_line (codes "menu ") m.menu
    ++ fraction_line (codes "spread ") m.spread
    ++ fraction_line (codes "leads ") m.leads

abbrev pub measures_text : Measures → List ℕ
measures_text m =
    head_text m ++ row_line (codes "turns") m.turns
    ++ flat_map (row_line (codes "site")) m.sites
    ++ flat_map (row_line (codes "seat")) m.seats
    ++ flat_map (row_line (codes "strategy")) m.strategies

-- each list has the numbers of its line
pub record HasNumbers (m : Measures) : Type 0 where
  pub matches : length m.matches ≡ 2
  pub choices : length m.choices ≡ 2
  pub forced : length m.forced ≡ 2
  pub menu : length m.menu ≡ 2
  pub spread : length m.spread ≡ 2
  pub leads : length m.leads ≡ 2
  pub turns : length m.turns ≡ 3
  pub sites : AllByRecursion (λ row. length row ≡ 4) m.sites
  pub seats : AllByRecursion (λ row. length row ≡ 5) m.seats
  pub strategies : AllByRecursion (λ row. length row ≡ 4) m.strategies
