use Rattle.std.proofs.Common.{ap, ap₂, slice_index, ◌∙◌, arith}
use Rattle.rand_chacha.specs.Block.{add32, double_rounds, block_word}
use Rattle.rc_draw.proofs.word.first_word.Goals as goal

pub returns : goal.returns
unfolding block_word
returns c =
    let first = c.first_rows-first.ensures in
    c.add.ensures 0 (omega arith)
    ∙ ap₂ add32 (ap (λ x. slice_index x 0) (c.last_rows-last.ensures ∙ ap (double_rounds 4) first))
    (ap (λ x. slice_index x 0) first)
