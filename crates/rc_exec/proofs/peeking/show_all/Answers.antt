use Rattle.rc_value.specs.declared.cards.Card.TheVariants.{Held}
use Rattle.rc_undo.proofs.KeepsLemmas.{keeps_then}
use Rattle.rc_value.proofs.PeekLemmas.{one_shown}
use Rattle.rc_exec.proofs.peeking.show_all.Goals as goal

pub returns-in-Err-clause-keeps : goal.returns-in-Err-clause-keeps
returns-in-Err-clause-keeps c = keeps_then _ _ _ c.loop-card.invariant.0 c.in-Err.ensures.keeps

pub loop-card-preserved : goal.loop-card-preserved
loop-card-preserved c =
    let loop = c.loop-card in (
      keeps_then _ _ _ loop.invariant.0 c.in-Ok.ensures.keeps,
      one_shown c.args.board.now.laid.shape c.args.class c.args.owner c.args.cards.now loop.card-index (Held 0) loop.board.laid
          c.show.new.board.laid _ c.loop-card-test.true loop.invariant.0.shape c.in-Ok.ensures.leads loop.invariant.1,
    )
