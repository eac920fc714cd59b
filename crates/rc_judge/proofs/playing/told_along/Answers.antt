use Rattle.std.proofs.Common.{◌+◌, Some, Ok, sym, ◌∙◌}
use Rattle.rc_rules.specs.Control.{stopped_of}
use Rattle.rc_play_spec.specs.Rows.{shuffled_row}
use Rattle.rc_play_spec.specs.Along.{told_along}
use Rattle.rc_play_spec.proofs.LegalLemmas.{on_row_none}
use Rattle.rc_judge.specs.Seen.{row_seen}
use Rattle.rc_judge.proofs.Steps.{free, halts, hands_on, told_line}
use Rattle.rc_judge.proofs.playing.told_along.Goals as goal

pub returns-clause-verdict : goal.returns-clause-verdict
returns-clause-verdict c = λ c'.
    let at = Some (stopped_of c.args.stop c' c.args.count) in
    told_line at c.args.line c.args.told c.if-told-eq0.false
    ∙ on_row_none c.args.line (shuffled_row at c.args.told) (Ok (c.args.line + 1))
    (sym (c.shuffled_row.ensures c') ∙ free c.args.line (row_seen c.shuffled_row.result) c.in_ok-on_row.ensures.verdict)

pub returns-in_err-on_row-clause-verdict : goal.returns-in_err-on_row-clause-verdict
returns-in_err-on_row-clause-verdict c = λ c'.
    let at = Some (stopped_of c.args.stop c' c.args.count) in
    let halt = c.in_err-on_row.field-0.0 in
    hands_on (λ n. n) c.from_residual.result halt (told_along c.args.line at c.args.told) c.from_residual.ensures.1
    (halts c.args.line halt (row_seen c.shuffled_row.result) (shuffled_row at c.args.told) (Ok (c.args.line + 1)) _
    (c.shuffled_row.ensures c')
    (told_line at c.args.line c.args.told c.if-told-eq0.false) c.in_err-on_row.ensures.verdict)
