use Rattle.std.proofs.Common.{◌-◌, length, take, drop, ap, ◌∙◌, arith}
use Rattle.std.proofs.lemmas.List.{length-drop, take_all}
use Rattle.rc_table.specs.Laid.{relaid}
use Rattle.rc_table.specs.Runs.{put_each}
use Rattle.rc_undo.specs.Sides.{end_of}
use Rattle.rc_undo.proofs.KeepsLemmas.{keeps_then}
use Rattle.rc_undo.proofs.EachLemmas.{some_go}
use Rattle.rc_undo.proofs.noting.put_noted.Goals as goal

pub returns-in-Err-clause-keeps : goal.returns-in-Err-clause-keeps
returns-in-Err-clause-keeps c = keeps_then _ _ _ c.loop-at.invariant.keeps c.in-Err.ensures.keeps

pub loop-at-preserved : goal.loop-at-preserved
loop-at-preserved c =
    let loop = c.loop-at in
    let ids = c.args.ids.now in
    let end = end_of c.args.side in
    let left = length-drop loop.at ids in
    let count = c.in-Ok.ensures.count in
    let within = loop.invariant.within in
    let whole = take_all (length ids - loop.at) (drop loop.at ids) (omega (arith, left)) in
    let is = c.in-Ok.ensures.leads
    ∙ ap (λ xs. relaid loop.board.laid (put_each loop.board.laid.shape end c.args.loc (take c.in-Ok.count xs) loop.board.laid.table)) whole in
    let goes = some_go c.args.board.now loop.board _ end c.args.loc ids loop.at c.in-Ok.count loop.invariant.keeps c.in-Ok.ensures.keeps
    loop.invariant.leads is in
    record {
      within = omega (arith, left, count, within);
      keeps = goes.keeps;
      leads = goes.leads;
    }
