use Rattle.std.proofs.Common.{◌≡◌, length, All, sym, ◌∙◌, subst}
use Rattle.rc_rules.specs.declared.record.MatchRecord.{MatchRecord}
use Rattle.rc_series.proofs.NamedLemmas.{all_mapped}
use Rattle.rc_series.proofs.series.series_from.Goals as goal

pub standings-requires-clause-each : goal.standings-requires-clause-each
standings-requires-clause-each c =
    let scored = λ (r : MatchRecord). length r.scores.items ≡ length c.args.plan.now.strategies.items in
    subst (All scored) (sym (c.deref.ensures.value ∙ c.in_ok-matches.ensures.matches)) (all_mapped (λ p. p.record) scored c.args.played.items c.requires.each)
