-- What a source has left, where it tells that, and what calls do to it.
use Rattle.std.specs.Prelude.{◌≡◌, ℕ, List, ◌++◌, Option, Some, None}
pub use Rattle.std.specs.Io.KnownBytes.{IsAtEnd}

-- the source gave these bytes from the front of what it had left
abbrev pub Gave : Option (List ℕ) → Option (List ℕ) → List ℕ → Type 0
Gave None after bytes = Unit {0}
Gave (Some whole) after bytes = (rest : List ℕ) × (after ≡ Some rest) × (whole ≡ bytes ++ rest)

-- how many bytes a read asks for where a source is read to its end
abbrev pub longest_read : ℕ
longest_read = 4096
