-- Statements of laws of draws: picks are below what they are asked, and orders are permutations.
use Rattle.std.specs.Prelude.{◌≡◌, ℕ, ◌<◌, List, length, map, slice_index}
use Rattle.std.specs.List.Sorted.{IsPermutation}
use Rattle.rc_base.specs.Numbers.{below}
use Rattle.rc_play_spec.specs.Draws.{pick_of, permuted, keyed}

-- a pick is below the number that it is asked for
abbrev pub PicksBelow : Type 0
PicksBelow = (key : List ℕ) (n : ℕ) → 0 < n → pick_of key n < n

-- the order of a key is a permutation
abbrev pub Permutes : Type 0
Permutes = (key xs : List ℕ) → IsPermutation xs (permuted key xs) × (length (permuted key xs) ≡ length xs)

-- and it is the order of the places
abbrev pub PermutesPlaces : Type 0
PermutesPlaces = (key xs : List ℕ) → permuted key xs ≡ map (slice_index xs) (permuted key (below (length xs)))

-- so each shuffle of a match gives its places an order that is a permutation
abbrev pub OrdersPermute : Type 0
OrdersPermute = (a b c d size : ℕ) → IsPermutation (below size) (keyed.order a b c d size)
