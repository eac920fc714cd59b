use Rattle.std.proofs.Common.{◌≡◌, IfOk, map, subst}
use Rattle.rc_play_spec.specs.House.{standings_of}
use Rattle.rc_rules.specs.Plan.{plan_seen}
use Rattle.rc_rules.specs.Record.{record_seen, standing_seen}
use Rattle.rc_series.specs.Series.{IsTold, matches_of}
use Rattle.rc_series.proofs.workers.series_by_workers.Goals as goal

pub returns-clause-matches : goal.returns-clause-matches
returns-clause-matches g c =
    subst (λ about. IfOk c.play_plan.result (λ series. map record_seen series.named.text.matches.items ≡ matches_of about (plan_seen c.args.plan))) c.in-Ok.ensures
    (subst (λ plan. IfOk c.play_plan.result (λ series. map record_seen series.named.text.matches.items ≡ matches_of c.in-Ok.about.value (plan_seen plan))) c.in-Ok-new.ensures.ok
    c.play_plan.ensures.matches)

pub returns-clause-standings : goal.returns-clause-standings
returns-clause-standings g c =
    subst (λ about. IfOk c.play_plan.result (λ series. map standing_seen series.named.text.standings.items ≡ standings_of (plan_seen c.args.plan) (matches_of about (plan_seen c.args.plan)))) c.in-Ok.ensures
    (subst (λ plan. IfOk c.play_plan.result (λ series. map standing_seen series.named.text.standings.items ≡ standings_of (plan_seen plan) (matches_of c.in-Ok.about.value (plan_seen plan)))) c.in-Ok-new.ensures.ok
    c.play_plan.ensures.standings)

pub returns-clause-named : goal.returns-clause-named
returns-clause-named g c =
    subst (λ about. IfOk c.play_plan.result (λ series. IsTold c.args.noted about (plan_seen c.args.plan) series.named)) c.in-Ok.ensures
    (subst (λ plan. IfOk c.play_plan.result (λ series. IsTold c.args.noted c.in-Ok.about.value (plan_seen plan) series.named)) c.in-Ok-new.ensures.ok
    c.play_plan.ensures.named)
