use Rattle.std.proofs.Common.{◌+◌, ◌-◌, ◌*◌, ◌<◌, ◌∙◌, ap, arith}
use Rattle.rc_play_spec.specs.Draws as draws
use Rattle.rc_draw.proofs.BlockLemmas.{next_step}
use Rattle.rc_draw.proofs.shuffle_by_block.Goals as goal

pub words-preserved : goal.words-preserved
words-preserved c =
    let words = draws.word_of c.args.key.now in
    let place = c.words.place in
    let k = 16 * c.args.number + place in
    let z = c.args.left - place in
    let many : 1 < z = omega arith in
    let word = c.words_of_block-words.ensures place (omega arith) in
    let said = c.scale_word-at.ensures.value ∙ ap (λ w. draws.scaled w z) word in (
      c.swap.ensures.len ∙ c.words.invariant.0,
      next_step words k z c.words.list _ c.scale_word-at.result
          (16 * c.args.number + (place + 1)) (c.args.left - (place + 1))
          (omega arith) (omega arith) c.swap.ensures.after said many ∙ c.words.invariant.1,
    )
