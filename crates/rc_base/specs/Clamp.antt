-- The range of every number of a game: within -1,000,000,000 .. 1,000,000,000.
use Rattle.std.specs.Prelude.{ℕ, ℤ, pos, neg_ℤ, Bool, ◌&&◌, int_le, ◌≤ℤ◌}
use Rattle.std.specs.Int.{int_max, int_min}

-- the largest number; the least one is as far below 0
abbrev pub largest_number : ℕ
largest_number = 1000000000

abbrev pub IsWithinClamp : ℤ → Type 0
IsWithinClamp z = (neg_ℤ (pos largest_number) ≤ℤ z) × (z ≤ℤ pos largest_number)

-- the same as a test
abbrev pub is_within_clamp : ℤ → Bool
is_within_clamp z = int_le (neg_ℤ (pos largest_number)) z && int_le z (pos largest_number)

-- the number of the range that is nearest
abbrev pub clamped : ℤ → ℤ
clamped z = int_max (neg_ℤ (pos largest_number)) (int_min (pos largest_number) z)
