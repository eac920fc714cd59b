-- Names of attributes and values, and their numbers.
use Rattle.std.specs.Prelude.{ℕ, ◌≤◌, if◌then◌else◌, List, length, Option, None}
use Rattle.std.specs.List.{position}
use Rattle.std.specs.Str.{bytes_eq}
use Rattle.rc_base.specs.Tree.{Tree, word, list}
use Rattle.rc_base.specs.Words.{is_variable}

-- the words of the attributes and of the values, each at the place that is its number
pub record DeckNames : Type 0 where
  pub attrs : List (List ℕ)
  pub values : List (List ℕ)

-- the numbers of the names fit in 16 bits
abbrev pub AreFew : DeckNames → Type 0
AreFew names = (length names.attrs ≤ 65536) × (length names.values ≤ 65536)

-- the number of the name that a tree is, if it is one of the names
abbrev pub number_of : List (List ℕ) → Tree → Option ℕ
number_of names (word bytes from to) = if is_variable bytes then None else position (bytes_eq bytes) names
number_of names (list parts from to) = None
