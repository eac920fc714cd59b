-- Words of a sheet.
use Rattle.std.specs.Prelude.{ℕ, Bool, List, [], ◌∷◌, ◌++◌, slice_index, ◌==◌, if◌then◌else◌, bytes_eq}
use Rattle.std.specs.List.{list_any}

-- the word begins with `'`
abbrev pub is_variable : List ℕ → Bool
is_variable bytes = slice_index bytes 0 == 39

-- these words and one more, which goes last where it is new
abbrev pub with_word : List (List ℕ) → List ℕ → List (List ℕ)
with_word words word = if list_any (bytes_eq word) words then words else words ++ word ∷ []

-- the different ones among words, but for those that were seen, in the order in which they first stand
abbrev pub different_from : List (List ℕ) → List (List ℕ) → List (List ℕ)
different_from seen [] = []
different_from seen (word ∷ words) =
    if list_any (bytes_eq word) seen then different_from seen words else word ∷ different_from (word ∷ seen) words

abbrev pub different : List (List ℕ) → List (List ℕ)
different words = different_from [] words
