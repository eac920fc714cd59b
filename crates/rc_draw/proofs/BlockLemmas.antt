-- The words of a block, and shuffles by them.
use Rattle.std.proofs.Common.{◌≡◌, ℕ, ◌+◌, ◌-◌, ◌*◌, ◌/◌, ◌%◌, ◌<◌, ◌≤◌, ◌⊎◌, inl, inr, List, slice_index}
use Rattle.std.proofs.Common.{sym, ap, ap₂, ◌∙◌, arith}
use Rattle.std.specs.Prelude.{swap}
use Rattle.rand_chacha.specs.Block.{block_word}
use Rattle.rand_chacha.specs.ChaCha.{word_at}
use Rattle.rc_play_spec.specs.Draws.{scaled, permuted_by}
use Rattle.rc_draw.proofs.ShuffleSteps.{one_step, no_step}

-- the words of the n-th block are the 16 from the one behind n blocks on
pub words_in_block : (key : List ℕ) (n : ℕ) (words : List ℕ) →
    ((j : ℕ) → j < 16 → slice_index words j ≡ block_word 4 key n 0 j) →
    (j : ℕ) → j < 16 → slice_index words j ≡ word_at 4 key 0 (16 * n + j)
words_in_block key n words each j less =
    let block : (16 * n + j) / 16 ≡ n = omega (arith, less) in
    let place : (16 * n + j) % 16 ≡ j = omega (arith, less) in
    each j less ∙ sym (ap₂ (λ b k. block_word 4 key b 0 k) block place)

module _ (words : ℕ → ℕ) where
  -- one place more has what its word says
  pub next_step : (k z : ℕ) (xs ys : List ℕ) (at k' z' : ℕ) → k' ≡ k + 1 → z' ≡ z - 1 → ys ≡ swap xs at (z - 1) →
      at ≡ scaled (words k) z → 1 < z →
      permuted_by words k' z' ys ≡ permuted_by words k z xs
  next_step k z xs ys at k' z' more less swapped said many =
      ap₂ (λ p n. permuted_by words p n ys) more less
      ∙ ap (permuted_by words (k + 1) (z - 1)) (swapped ∙ ap (λ j. swap xs j (z - 1)) said)
      ∙ one_step words k z xs many

  -- behind a block the next one goes on, where places are left
  pub next_block : (number left rest : ℕ) (xs : List ℕ) → (rest ≤ 1) ⊎ (rest + 16 ≡ left) →
      permuted_by words (16 * (number + 1)) rest xs ≡ permuted_by words (16 * number + (left - rest)) rest xs
  next_block number left rest xs (inl few) =
      no_step words (16 * (number + 1)) rest xs few ∙ sym (no_step words (16 * number + (left - rest)) rest xs few)
  next_block number left rest xs (inr all) =
      let next : 16 * (number + 1) ≡ 16 * number + (left - rest) = omega (arith, all) in
      ap (λ k. permuted_by words k rest xs) next

pub more_left : (number left rest all : ℕ) → 16 * number + left ≡ all → (rest ≤ 1) ⊎ (rest + 16 ≡ left) → 1 < rest →
    16 * (number + 1) + rest ≡ all
more_left number left rest all sum (inl few) some = absurd (omega (arith, few, some))
more_left number left rest all sum (inr whole) some = omega (arith, sum, whole)
