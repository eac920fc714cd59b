-- Marks as bytes: bit s says whether a card is marked for seat s.
use Rattle.std.specs.Prelude.{ℕ, ◌/◌, ◌%◌, ◌^◌, ◌==◌, Bool, List, filter}
use Rattle.rc_base.specs.Numbers.{below}

abbrev pub has_bit : ℕ → ℕ → Bool
has_bit byte seat = byte / 2 ^ seat % 2 == 1

-- the seats of a byte, in ascending order
abbrev pub seats_in : ℕ → List ℕ
seats_in byte = filter (has_bit byte) (below 8)
