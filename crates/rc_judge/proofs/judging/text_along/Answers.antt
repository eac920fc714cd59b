use Rattle.std.proofs.Common.{◌≡◌, ◌+◌, Ok, map, sym, ap, subst, ◌∙◌}
use Rattle.rc_play_spec.specs.Keyed.{dealing_of}
use Rattle.rc_play_spec.specs.Rows.{further_row}
use Rattle.rc_play_spec.specs.Along as along
use Rattle.rc_play_spec.proofs.LegalLemmas.{or_on}
use Rattle.rc_rules.specs.Plan.{plan_seen}
use Rattle.rc_rules.specs.Record.{record_seen, standing_seen}
use Rattle.rc_judge.specs.Seen.{IsFound, row_seen}
use Rattle.rc_judge.proofs.Steps.{further_found, hands_found}
use Rattle.rc_judge.proofs.judging.text_along.Goals as goal

pub returns-in_err-on_row-clause-verdict : goal.returns-in_err-on_row-clause-verdict
returns-in_err-on_row-clause-verdict g c =
    let about = c.args.about.now in
    let plan = plan_seen c.args.plan.now in
    let told = g.N.Margin.told c.args.margin.now in
    let matches = map record_seen c.args.text.now.matches.items in
    let standings = map standing_seen c.args.text.now.standings.items in
    let halt = c.in_err-on_row.field-0.0 in
    hands_found c.from_residual-in_err-on_row.result halt _ c.from_residual-in_err-on_row.ensures.1
    (subst (IsFound halt)
    (sym (or_on (along.matches_along about dealing_of plan 0 (c.args.head + 1) told matches) (λ n. along.standings_along plan n matches 0 standings) c.in_ok-line.line
    (subst (λ all. along.matches_along about dealing_of plan 0 (c.args.head + 1) told (map record_seen all) ≡ Ok c.in_ok-line.line) c.deref.ensures.value c.in_ok-line.ensures.verdict)))
    (further_found plan c.in_ok-line.line matches standings halt (row_seen c.further_row.result) c.requires.text.standings
    (c.further_row.ensures ∙ ap (λ all. further_row plan (map record_seen all)) c.deref-2.ensures.value) c.in_err-on_row.ensures.verdict))
