-- What was written to a sink, where it tells that, and what calls add to it.
use Rattle.std.specs.Prelude.{◌≡◌, ℕ, List, ◌++◌, take, Option, Some, None}

-- the sink got exactly these bytes, at the end of what it had
abbrev pub Got : Option (List ℕ) → Option (List ℕ) → List ℕ → Type 0
Got None after bytes = Unit {0}
Got (Some before) after bytes = after ≡ Some (before ++ bytes)

-- the sink got a front of these bytes
abbrev pub GotFront : Option (List ℕ) → Option (List ℕ) → List ℕ → Type 0
GotFront before after bytes = (count : ℕ) × Got before after (take count bytes)
