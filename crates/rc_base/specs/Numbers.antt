-- Lists of numbers.
use Rattle.std.specs.Prelude.{ℕ, List}
use Rattle.std.specs.List.{range_with_len}

-- the numbers below n, in order
abbrev pub below : ℕ → List ℕ
below n = range_with_len 0 n
