use Rattle.std.proofs.Common.{◌++◌, [], refl, sym, ap, subst, ◌∙◌, append-nil}
use Rattle.rc_play_spec.specs.Reading.{before, lines_in, read_from}
use Rattle.rc_text.specs.Gives.{Gives}
use Rattle.rc_text.specs.House.{named_seen}
use Rattle.rc_text.proofs.Exactly.{hands_fault, fault_behind}
use Rattle.rc_text.proofs.reading.read_lines.Goals as goal

pub returns-in_err-number-clause-reads : goal.returns-in_err-number-clause-reads
returns-in_err-number-clause-reads c =
    let first = (lines_in c.args.first.now).0 in
    hands_fault named_seen c.from_residual.result c.in_err-number.field-0.0 _ c.from_residual.ensures.1
    (fault_behind c.in_err-number.field-0.0 _
    (λ named more. read_from named 1 (before (first ++ more)) (lines_in c.args.bytes.now).0 (lines_in c.args.bytes.now).1) c.args.named (lines_in c.args.legend.now).0 refl
    c.in_err-number.ensures.fault)

pub returns-in_err-number-2-clause-reads : goal.returns-in_err-number-2-clause-reads
returns-in_err-number-2-clause-reads c =
    let legend = (lines_in c.args.legend.now).0 in
    let first = c.in_ok-number.ensures.behind c.args.named legend in
    hands_fault named_seen c.from_residual-in_err-number-2.result c.in_err-number-2.field-0.0 _ c.from_residual-in_err-number-2.ensures.1
    (fault_behind c.in_err-number-2.field-0.0 _
    (λ named more. read_from named c.in_ok-number.number (before (legend ++ more)) (lines_in c.in_ok-number.rest.now).0 (lines_in c.in_ok-number.rest.now).1) c.args.named []
    (first ∙ ap (λ head. read_from c.args.named c.in_ok-number.number (before head) (lines_in c.in_ok-number.rest.now).0 (lines_in c.in_ok-number.rest.now).1) (sym (append-nil legend)))
    c.in_err-number-2.ensures.fault)

pub returns-clause-reads : goal.returns-clause-reads
returns-clause-reads c =
    let legend = (lines_in c.args.legend.now).0 in
    let rest = c.in_ok-number.rest.now in
    subst (Gives named_seen c.read_body.result)
    (sym (c.in_ok-number.ensures.behind c.args.named legend
    ∙ ap (λ head. read_from c.args.named c.in_ok-number.number (before head) (lines_in rest).0 (lines_in rest).1) (sym (append-nil legend))
    ∙ c.in_ok-number-2.ensures.behind c.args.named []))
    c.read_body.ensures.reads
