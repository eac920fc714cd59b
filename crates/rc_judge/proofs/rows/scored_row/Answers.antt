use Rattle.std.proofs.Common.{ap, sym, ◌∙◌}
use Rattle.rc_play_spec.specs.Why.{by_score}
use Rattle.rc_play_spec.specs.Rows.{unless}
use Rattle.rc_judge.proofs.rows.scored_row.Goals as goal

pub returns-then-is_score-clause-row : goal.returns-then-is_score-clause-row
returns-then-is_score-clause-row c = λ about c' stop k is ranked.
    ap (λ b. unless b by_score) (sym c.if-is_score.true ∙ c.is_score.ensures.score about c' is ranked)

pub returns-else-is_score-clause-row : goal.returns-else-is_score-clause-row
returns-else-is_score-clause-row c = λ about c' stop k is ranked.
    ap (λ b. unless b by_score) (sym c.if-is_score.false ∙ c.is_score.ensures.score about c' is ranked)
