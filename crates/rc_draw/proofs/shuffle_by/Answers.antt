use Rattle.std.proofs.Common.{◌*◌, ◌∙◌, sym, subst, arith}
use Rattle.std.specs.List.Sorted.{IsPermutation}
use Rattle.rc_play_spec.specs.Draws as draws
use Rattle.rc_draw.proofs.ShuffleSteps.{no_step}
use Rattle.rc_draw.proofs.BlockLemmas.{next_block, more_left}
use Rattle.rc_draw.proofs.shuffle_by.Goals as goal

pub rest-preserved : goal.rest-preserved
rest-preserved c =
    let words = draws.word_of c.args.key.now in
    let number = c.rest.number in
    let left = c.rest.left in
    let inv = c.rest.invariant in
    let block = c.shuffle_by_block-left.ensures in
    let rest = c.shuffle_by_block-left.result in (
      block.same ∙ inv.0,
      λ some. more_left number left rest _ (inv.1 c.rest-test.true) block.left some ∙ sym block.same,
      next_block words number left rest c.shuffle_by_block-left.new.list block.left ∙ block.permuted ∙ inv.2,
    )

pub returns : goal.returns
returns c =
    let no_more = c.rest-test.false in
    let key = c.args.key.now in
    let stays = no_step (draws.word_of key) (16 * c.rest.number) c.rest.left c.rest.list (omega (arith, no_more)) in
    let order = sym stays ∙ c.rest.invariant.2 in
    record {
      order = order;
      permuted = subst (IsPermutation c.args.list.now) (sym order) (c.keys_pick_and_permute.ensures.items key c.args.list.now).0;
    }
