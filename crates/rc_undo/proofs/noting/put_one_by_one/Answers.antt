use Rattle.rc_undo.specs.Sides.{end_of}
use Rattle.rc_undo.proofs.KeepsLemmas.{keeps_then}
use Rattle.rc_undo.proofs.EachLemmas.{one_goes}
use Rattle.rc_undo.proofs.noting.put_one_by_one.Goals as goal

pub returns-in-Err-clause-keeps : goal.returns-in-Err-clause-keeps
returns-in-Err-clause-keeps c = keeps_then _ _ _ c.loop-id.invariant.keeps c.in-Err.ensures.keeps

pub loop-id-preserved : goal.loop-id-preserved
loop-id-preserved c =
    let loop = c.loop-id in
    one_goes c.args.board.now loop.board _ (end_of c.args.side) c.args.loc c.args.ids.now loop.id-index c.loop-id-test.true loop.invariant.keeps
    c.in-Ok.ensures.keeps loop.invariant.leads c.in-Ok.ensures.leads
