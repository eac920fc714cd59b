-- A key's order is a permutation.
use Rattle.std.proofs.Common.{◌≡◌, ℕ, zero, suc, ◌+◌, ◌*◌, ◌/◌, ◌%◌, ◌^◌, ◌<◌, ◌≤◌, List, [], ◌∷◌, length, map, get_or, refl, sym, ap, ap₂, ◌∙◌, arith}
use Rattle.std.specs.Prelude.{swap, IsPermutation, slice_index}
use Rattle.std.specs.Prelude.{slice_set as set}
use Rattle.std.specs.List.{range_with_len}
use Rattle.std.proofs.Math.Nat.{mod-lt, div-lt_iff_lt-mul}
use Rattle.std.proofs.Math.ListN.{get_or-map}
use Rattle.std.proofs.lemmas.List.{map-set, length-map}
use Rattle.rc_base.specs.Numbers.{below}
use Rattle.std.proofs.lemmas.List.Edits.{length-swap}
use Rattle.std.proofs.lemmas.List.Sorted.{IsPermutation-refl, IsPermutation-swap, IsPermutation-trans}
use Rattle.rand_chacha.specs.Block.{block_word, initial_state, double_rounds}
use Rattle.rand_chacha.specs.ChaCha.{key_of}
use Rattle.rc_play_spec.specs.Draws.{word_of, scaled, permuted_by, permuted}

block_word-lt : (n : ℕ) (key : List ℕ) (counter nonce k : ℕ) → block_word n key counter nonce k < 4294967296
unfolding block_word
block_word-lt n key counter nonce k =
    mod-lt (slice_index (double_rounds n (initial_state key counter nonce)) k + slice_index (initial_state key counter nonce) k) {m = 2 ^ 32} (omega arith)

pub word_of-lt : (key : List ℕ) (k : ℕ) → word_of key k < 4294967296
word_of-lt key k = block_word-lt 4 (key_of key) (k / 16) 0 (k % 16)

pub scaled-lt : (w n : ℕ) → w < 4294967296 → 0 < n → scaled w n < n
scaled-lt w n less some = (div-lt_iff_lt-mul {k = 4294967296} {x = w * n} {y = n} (omega arith)).1 (scaled_up w n less some) where
  scaled_up : (w n : ℕ) → w < 4294967296 → 0 < n → w * n < n * 4294967296
  scaled_up w n less some = grind (arith, less, some)

module _ (words : ℕ → ℕ) (bound : (k : ℕ) → words k < 4294967296) {X : Type 0} where
  pub permuted_by-is : (k z : ℕ) (xs : List X) → z ≤ length xs → IsPermutation xs (permuted_by words k z xs)
  permuted_by-is k zero xs le = IsPermutation-refl xs
  permuted_by-is k (suc zero) xs le = IsPermutation-refl xs
  permuted_by-is k (suc (suc z)) xs le =
      let i = scaled (words k) (suc (suc z)) in
      let here : i < suc (suc z) = scaled-lt (words k) (suc (suc z)) (bound k) (omega arith) in
      let ys = swap xs i (suc z) in
      let same = length-swap xs i (suc z) in
      IsPermutation-trans xs ys (permuted_by words (k + 1) (suc z) ys)
      (IsPermutation-swap xs ys i (suc z) (omega (arith, here, le)) (omega (arith, le)) refl)
      (permuted_by-is (k + 1) (suc z) ys (omega (arith, same, le)))

pub permuted-is : {X : Type 0} (key : List ℕ) (xs : List X) → IsPermutation xs (permuted key xs)
permuted-is key xs = permuted_by-is (word_of key) (word_of-lt key) 0 (length xs) xs (omega arith)

-- The order that a key makes of a list is that of its places.
swap-map : {X Y : Type 0} (f : X → Y) (xs : List X) (i j : ℕ) → swap (map f xs) i j ≡ map f (swap xs i j)
swap-map f [] i j = refl
swap-map f (d ∷ xs) i j =
    sym (map-set f (set (d ∷ xs) i (get_or (d ∷ xs) j d)) j (get_or (d ∷ xs) i d)
    ∙ ap₂ (λ l y. set l j y) (map-set f (d ∷ xs) i (get_or (d ∷ xs) j d)) refl
    ∙ ap₂ (λ a b. set (set (map f (d ∷ xs)) i a) j b) (sym (get_or-map f (d ∷ xs) j d)) (sym (get_or-map f (d ∷ xs) i d)))

permuted_by-map : {X Y : Type 0} (f : X → Y) (words : ℕ → ℕ) (k z : ℕ) (xs : List X) → permuted_by words k z (map f xs) ≡ map f (permuted_by words k z xs)
permuted_by-map f words k zero xs = refl
permuted_by-map f words k (suc zero) xs = refl
permuted_by-map f words k (suc (suc z)) xs =
    ap (permuted_by words (k + 1) (suc z)) (swap-map f xs (scaled (words k) (suc (suc z))) (suc z))
    ∙ permuted_by-map f words (k + 1) (suc z) (swap xs (scaled (words k) (suc (suc z))) (suc z))

range-shift : (f : ℕ → ℕ) (a n : ℕ) → map f (range_with_len (suc a) n) ≡ map (λ i. f (suc i)) (range_with_len a n)
range-shift f a zero = refl
range-shift f a (suc n) =
    let e : suc a + 1 ≡ suc (a + 1) = omega arith in
    ap (λ ys. f (suc a) ∷ ys) (ap (λ k. map f (range_with_len k n)) e ∙ range-shift f (a + 1) n)

each-place : (xs : List ℕ) → map (slice_index xs) (below (length xs)) ≡ xs
each-place [] = refl
each-place (x ∷ xs) = ap (λ ys. x ∷ ys) (range-shift (slice_index (x ∷ xs)) 0 (length xs) ∙ each-place xs)

pub permuted-places : (key xs : List ℕ) → permuted key xs ≡ map (slice_index xs) (permuted key (below (length xs)))
permuted-places key xs =
    ap (permuted key) (sym (each-place xs))
    ∙ ap (λ n. permuted_by (word_of key) 0 n (map (slice_index xs) (below (length xs)))) (length-map (below (length xs)) (slice_index xs))
    ∙ permuted_by-map (slice_index xs) (word_of key) 0 (length (below (length xs))) (below (length xs))
