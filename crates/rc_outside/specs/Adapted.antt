-- A reader or writer of the standard library that is adapted, as a caller sees it.
use Rattle.std.specs.Prelude.{ℕ}

-- the reader or writer, and how many of its calls failed
pub record Adapted (X : Type 0) : Type 0 where
  pub inner : X
  pub faults : ℕ
