-- Draws: keys, their words, and the picks and orders that they give.
use Rattle.std.specs.Prelude.{ℕ, zero, suc, ◌+◌, ◌*◌, ◌/◌, List, ◌++◌, length, swap}
use Rattle.std.specs.Int.{w64, to_le_bytes}
use Rattle.rand_chacha.specs.ChaCha.{word_at, key_of}
use Rattle.rc_base.specs.Numbers.{below}

-- a key of four numbers of 64 bits
abbrev pub key32 : ℕ → ℕ → ℕ → ℕ → List ℕ
key32 a b c d = to_le_bytes w64 a ++ (to_le_bytes w64 b ++ (to_le_bytes w64 c ++ to_le_bytes w64 d))

-- What a seat draws for: its picks by chance, the deals that are drawn anew for what it sees, the picks and the shuffles of all
-- seats in its playouts, and the deals and the shuffles of its searches. The second number of a key parts the draws of a seat for
-- one of these from all others.
abbrev pub picks : ℕ
picks = 2

abbrev pub redraws : ℕ
redraws = 3

abbrev pub playout_picks : ℕ
playout_picks = 4

abbrev pub playout_shuffles : ℕ
playout_shuffles = 5

abbrev pub search_redraws : ℕ
search_redraws = 6

abbrev pub search_shuffles : ℕ
search_shuffles = 7

abbrev pub drawn_for : ℕ → ℕ → ℕ
drawn_for seat purpose = 256 * seat + purpose

-- the k-th word of a key: those of ChaCha8, which is four double rounds
abbrev pub word_of : List ℕ → ℕ → ℕ
word_of key k = word_at 4 (key_of key) 0 k

-- a word of 32 bits as a number below n
abbrev pub scaled : ℕ → ℕ → ℕ
scaled w n = w * n / 4294967296

-- a pick below n
abbrev pub pick_of : List ℕ → ℕ → ℕ
pick_of key n = scaled (word_of key 0) n

-- The first z items in another order, by the words from the k-th on: the item that the word says becomes the last of them, the
-- old last one takes its place, and those before the last go on by the words after it.
abbrev pub permuted_by : {X : Type 0} → (ℕ → ℕ) → ℕ → ℕ → List X → List X
permuted_by words k zero xs = xs
permuted_by words k (suc zero) xs = xs
permuted_by words k (suc (suc z)) xs =
    permuted_by words (k + 1) (suc z) (swap xs (scaled (words k) (suc (suc z))) (suc z))

-- a list in the order of a key
abbrev pub permuted : {X : Type 0} → List ℕ → List X → List X
permuted key xs = permuted_by (word_of key) 0 (length xs) xs

-- What the key made of four numbers gives: a pick below n, and an order of a list of so many items. Definitions take it as an
-- argument, so that small plays can be computed with simpler ones.
pub record Draws : Type 0 where
  pub pick : (a b c d n : ℕ) → ℕ
  pub order : (a b c d size : ℕ) → List ℕ

-- what those keys do give
abbrev pub keyed : Draws
keyed = record {
  pick = λ a b c d n. pick_of (key32 a b c d) n;
  order =
      λ a b c d size. permuted (key32 a b c d) (below size);
}
