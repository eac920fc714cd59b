use Rattle.std.proofs.Common.{arith, ap}
use Rattle.std.proofs.lemmas.Grind.{common_steps}
use Rattle.rc_rules.specs.Record.{score_seen}
use Rattle.rc_play_spec.specs.Rows.{is_the_score}
use Rattle.rc_judge.proofs.Told.{score_told}
use Rattle.rc_judge.proofs.rows.is_score.Goals as goal

pub returns-clause-score : goal.returns-clause-score
returns-clause-score c = λ about c' is ranked.
    let there = score_told about c' c.args.scores.now.items c.args.points.now.items c.args.index is ranked (omega (arith, c.if-index-len.false, c.len.ensures.value)) in
    let told = ap (is_the_score (score_seen c.args.told.now)) there in
    grind (arith, common_steps, told, c.tells.ensures, c.deref.ensures, c.deref-2.ensures)
