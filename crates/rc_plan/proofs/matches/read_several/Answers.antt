use Rattle.std.proofs.Common.{arith}
use Rattle.rc_plan.proofs.MatchLemmas.{listed_alone, listed_apart}
use Rattle.rc_plan.proofs.Told.{fail_as, reads_handed_on}
use Rattle.rc_plan.proofs.matches.read_several.Goals as goal

pub returns-then-lists_among-le1 : goal.returns-then-lists_among-le1
returns-then-lists_among-le1 c =
    fail_as c.fault_among.result _ _ (listed_alone 0 c.args.parts.now (λ none. grind arith) (grind arith)) c.fault_among.ensures

pub returns-in_err-deals : goal.returns-in_err-deals
returns-in_err-deals c =
    let fail = c.in_err-deals.field-0.0 in
    reads_handed_on c.from_residual.result fail _ _ c.from_residual.ensures.1
    (fail_as fail _ _ (listed_apart 0 c.args.parts.now (λ none. grind arith) (grind arith)) c.in_err-deals.ensures)
