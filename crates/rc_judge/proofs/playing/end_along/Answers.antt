use Rattle.std.proofs.Common.{ℕ, ◌+◌, map, Some, sym, ap, subst, ◌∙◌}
use Rattle.rc_rules.specs.Control.{stopped_of}
use Rattle.rc_play_spec.specs.Rows.{ending_row}
use Rattle.rc_play_spec.specs.Along as along
use Rattle.rc_play_spec.proofs.LegalLemmas.{on_row_none, and_on}
use Rattle.rc_rules.specs.Record.{record_seen, score_seen}
use Rattle.rc_judge.specs.Seen.{Judges, row_seen}
use Rattle.rc_judge.proofs.Steps.{halts, halts_first, hands_on}
use Rattle.rc_judge.proofs.playing.end_along.Goals as goal

pub returns-in_err-line-clause-verdict : goal.returns-in_err-line-clause-verdict
returns-in_err-line-clause-verdict g c =
    let here = g.M.Machine.config c.args.machine.now in
    let r = record_seen c.args.played.now in
    let at = Some (stopped_of c.args.stop here c.args.count) in
    let halt = c.in_err-line.field-0.0 in
    hands_on (λ (n : ℕ). n) c.from_residual.result halt _ c.from_residual.ensures.1
    (halts_first halt (along.told_along c.args.line at r.shuffles)
    (λ n. along.on_row n (ending_row at r.shuffles r.ending r.turn) (along.scores_along c.args.about.now (n + 1) at 0 r.scores)) (c.in_err-line.ensures.verdict here))

pub returns-in_err-on_row-clause-verdict : goal.returns-in_err-on_row-clause-verdict
returns-in_err-on_row-clause-verdict g c =
    let here = g.M.Machine.config c.args.machine.now in
    let r = record_seen c.args.played.now in
    let at = Some (stopped_of c.args.stop here c.args.count) in
    let row = ending_row at r.shuffles r.ending r.turn in
    let halt = c.in_err-on_row.field-0.0 in
    hands_on (λ (n : ℕ). n) c.from_residual-in_err-on_row.result halt _ c.from_residual-in_err-on_row.ensures.1
    (halts c.in_ok-line.line halt (row_seen c.ending_row.result) row
    (along.scores_along c.args.about.now (c.in_ok-line.line + 1) at 0 r.scores) _
    (c.ending_row.ensures here (ap (λ control. control.turn) (sym c.control.ensures)))
    (and_on (along.told_along c.args.line at r.shuffles) (λ n. along.on_row n row (along.scores_along c.args.about.now (n + 1) at 0 r.scores)) c.in_ok-line.line (c.in_ok-line.ensures.verdict here))
    c.in_err-on_row.ensures.verdict)

pub returns-clause-verdict : goal.returns-clause-verdict
returns-clause-verdict g c =
    let here = g.M.Machine.config c.args.machine.now in
    let r = record_seen c.args.played.now in
    let at = Some (stopped_of c.args.stop here c.args.count) in
    let row = ending_row at r.shuffles r.ending r.turn in
    subst (Judges (λ (n : ℕ). n) c.scores_along.result)
    (sym (and_on (along.told_along c.args.line at r.shuffles) (λ n. along.on_row n row (along.scores_along c.args.about.now (n + 1) at 0 r.scores)) c.in_ok-line.line (c.in_ok-line.ensures.verdict here)
    ∙ on_row_none c.in_ok-line.line row (along.scores_along c.args.about.now (c.in_ok-line.line + 1) at 0 r.scores)
    (sym (c.ending_row.ensures here (ap (λ control. control.turn) (sym c.control.ensures))) ∙ ap row_seen c.in_ok-on_row.ensures.free)))
    (subst (λ scores. Judges (λ (n : ℕ). n) c.scores_along.result (along.scores_along c.args.about.now (c.in_ok-line.line + 1) at 0 (map score_seen scores)))
    c.deref.ensures.value (c.scores_along.ensures.verdict c.args.stop c.args.count))
