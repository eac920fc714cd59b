use Rattle.std.proofs.Common.{ap, ap₂, slice_index, slice_index_or, [], ◌∷◌, ◌∙◌, arith}
use Rattle.rand_chacha.specs.Block.{add32, double_rounds, initial_state, block_word}
use Rattle.rand_chacha.specs.ChaCha.{key_of}
use Rattle.rc_draw.proofs.RowLemmas.{below_sixteen}
use Rattle.rc_draw.proofs.BlockLemmas.{words_in_block}
use Rattle.rc_draw.proofs.block.words_of_block.Goals as goal

pub returns : goal.returns
unfolding block_word
returns c =
    let first = c.first_rows-first.ensures ∙ ap (λ key. initial_state key c.args.number 0) c.words_of_key.ensures in
    let last = c.last_rows-last.ensures ∙ ap (double_rounds 4) first in
    let words = slice_index_or c.add.result 0 0 ∷ slice_index_or c.add.result 1 0
    ∷ slice_index_or c.add.result 2 0 ∷ slice_index_or c.add.result 3 0
    ∷ slice_index_or c.add-2.result 0 0 ∷ slice_index_or c.add-2.result 1 0
    ∷ slice_index_or c.add-2.result 2 0 ∷ slice_index_or c.add-2.result 3 0
    ∷ slice_index_or c.add-3.result 0 0 ∷ slice_index_or c.add-3.result 1 0
    ∷ slice_index_or c.add-3.result 2 0 ∷ slice_index_or c.add-3.result 3 0
    ∷ slice_index_or c.add-4.result 0 0 ∷ slice_index_or c.add-4.result 1 0
    ∷ slice_index_or c.add-4.result 2 0 ∷ slice_index_or c.add-4.result 3 0 ∷ [] in
    words_in_block (key_of c.args.key.now) c.args.number words (below_sixteen _
    (c.add.ensures 0 (omega arith) ∙ ap₂ add32 (ap (λ x. slice_index x 0) last) (ap (λ x. slice_index x 0) first))
    (c.add.ensures 1 (omega arith) ∙ ap₂ add32 (ap (λ x. slice_index x 1) last) (ap (λ x. slice_index x 1) first))
    (c.add.ensures 2 (omega arith) ∙ ap₂ add32 (ap (λ x. slice_index x 2) last) (ap (λ x. slice_index x 2) first))
    (c.add.ensures 3 (omega arith) ∙ ap₂ add32 (ap (λ x. slice_index x 3) last) (ap (λ x. slice_index x 3) first))
    (c.add-2.ensures 0 (omega arith) ∙ ap₂ add32 (ap (λ x. slice_index x 4) last) (ap (λ x. slice_index x 4) first))
    (c.add-2.ensures 1 (omega arith) ∙ ap₂ add32 (ap (λ x. slice_index x 5) last) (ap (λ x. slice_index x 5) first))
    (c.add-2.ensures 2 (omega arith) ∙ ap₂ add32 (ap (λ x. slice_index x 6) last) (ap (λ x. slice_index x 6) first))
    (c.add-2.ensures 3 (omega arith) ∙ ap₂ add32 (ap (λ x. slice_index x 7) last) (ap (λ x. slice_index x 7) first))
    (c.add-3.ensures 0 (omega arith) ∙ ap₂ add32 (ap (λ x. slice_index x 8) last) (ap (λ x. slice_index x 8) first))
    (c.add-3.ensures 1 (omega arith) ∙ ap₂ add32 (ap (λ x. slice_index x 9) last) (ap (λ x. slice_index x 9) first))
    (c.add-3.ensures 2 (omega arith) ∙ ap₂ add32 (ap (λ x. slice_index x 10) last) (ap (λ x. slice_index x 10) first))
    (c.add-3.ensures 3 (omega arith) ∙ ap₂ add32 (ap (λ x. slice_index x 11) last) (ap (λ x. slice_index x 11) first))
    (c.add-4.ensures 0 (omega arith) ∙ ap₂ add32 (ap (λ x. slice_index x 12) last) (ap (λ x. slice_index x 12) first))
    (c.add-4.ensures 1 (omega arith) ∙ ap₂ add32 (ap (λ x. slice_index x 13) last) (ap (λ x. slice_index x 13) first))
    (c.add-4.ensures 2 (omega arith) ∙ ap₂ add32 (ap (λ x. slice_index x 14) last) (ap (λ x. slice_index x 14) first))
    (c.add-4.ensures 3 (omega arith) ∙ ap₂ add32 (ap (λ x. slice_index x 15) last) (ap (λ x. slice_index x 15) first)))
