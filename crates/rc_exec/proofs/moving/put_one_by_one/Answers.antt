use Rattle.std.proofs.Common.{ap, arith}
use Rattle.std.proofs.lemmas.Grind.{common_steps}
use Rattle.rc_table.specs.Laid.{Laid}
use Rattle.rc_undo.proofs.KeepsLemmas.{keeps_then}
use Rattle.rc_exec.proofs.moving.put_one_by_one.Goals as goal

pub returns-in-Err-clause-keeps : goal.returns-in-Err-clause-keeps
returns-in-Err-clause-keeps c = keeps_then _ _ _ c.loop-card.invariant.0 c.in-Err.ensures.keeps

pub loop-card-preserved : goal.loop-card-preserved
loop-card-preserved c =
    let loop = c.loop-card in
    let table = ap (λ (l : Laid). l.table) c.in-Ok.ensures.leads in
    let shape = loop.invariant.0.shape in
    (keeps_then _ _ _ loop.invariant.0 c.in-Ok.ensures.keeps, grind (arith, common_steps, table, shape))
