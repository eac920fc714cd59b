use Rattle.std.proofs.Common.{◌≡◌, ◌≤◌, ◌+◌, Some, IfOk, OnOk, OnErr, ap, subst}
use Rattle.rc_redraw.specs.Choosing.{AsksAll, AsksSome, all_costs}
use Rattle.rc_rules.specs.Plan.{plan_seen}
use Rattle.rc_match.specs.Asks.{asks_of}
use Rattle.rc_match.specs.Named.{IsNoted}
use Rattle.rc_match.proofs.AskLemmas.{anyway, none_asked}
use Rattle.rc_series.specs.Series.{played_seen}
use Rattle.rc_series.proofs.SeriesLemmas.{asked_alike, match_alike}
use Rattle.rc_series.proofs.records.record_of.Goals as goal

pub returns-clause-record : goal.returns-clause-record
returns-clause-record g c =
    let job = c.in_ok-job.job in
    subst (λ match. IfOk c.play_noted.result (λ p. match ≡ Some (played_seen p)))
    (match_alike job.about.value c.args.about.now.value (plan_seen job.plan.value) (plan_seen c.args.plan.now.value) job.number c.args.number
    c.in_ok-job.ensures.about (ap plan_seen c.in_ok-job.ensures.plan) c.in_ok-job.ensures.number)
    c.play_noted.ensures.record

pub returns-clause-noted : goal.returns-clause-noted
returns-clause-noted g c =
    let job = c.in_ok-job.job in
    subst (λ about. IfOk c.play_noted.result (IsNoted c.args.noted about (plan_seen c.args.plan.now.value) c.args.number)) c.in_ok-job.ensures.about
    (subst (λ plan. IfOk c.play_noted.result (IsNoted c.args.noted job.about.value plan c.args.number)) (ap plan_seen c.in_ok-job.ensures.plan)
    (subst (λ m. IfOk c.play_noted.result (IsNoted c.args.noted job.about.value (plan_seen job.plan.value) m)) c.in_ok-job.ensures.number
    c.play_noted.ensures.noted))

pub returns-clause-asked : goal.returns-clause-asked
returns-clause-asked g c =
    let job = c.in_ok-job.job in
    subst (λ keys. OnOk c.play_noted.result (AsksAll keys (g.C.Chooser.counts c.args.chooser.now) (g.C.Chooser.counts c.play_noted.new.chooser) c.args.steps.now c.play_noted.new.steps))
    (asked_alike job.about.value c.args.about.now.value (plan_seen job.plan.value) (plan_seen c.args.plan.now.value) job.number c.args.number
    c.in_ok-job.ensures.about (ap plan_seen c.in_ok-job.ensures.plan) c.in_ok-job.ensures.number)
    c.play_noted.ensures.asked

pub returns-clause-lacking : goal.returns-clause-lacking
returns-clause-lacking g c =
    let job = c.in_ok-job.job in
    subst (λ keys. OnErr c.play_noted.result (AsksSome keys (g.C.Chooser.counts c.args.chooser.now) (g.C.Chooser.counts c.play_noted.new.chooser) c.args.steps.now c.play_noted.new.steps))
    (asked_alike job.about.value c.args.about.now.value (plan_seen job.plan.value) (plan_seen c.args.plan.now.value) job.number c.args.number
    c.in_ok-job.ensures.about (ap plan_seen c.in_ok-job.ensures.plan) c.in_ok-job.ensures.number)
    c.play_noted.ensures.lacking

pub returns-in_err-machine-clause-lacking : goal.returns-in_err-machine-clause-lacking
returns-in_err-machine-clause-lacking g c =
    anyway c.from_residual.result (none_asked (asks_of c.args.about.now.value (plan_seen c.args.plan.now.value) c.args.number) (g.C.Chooser.counts c.args.chooser.now) c.args.steps.now)

pub returns-in_err-job-clause-lacking : goal.returns-in_err-job-clause-lacking
returns-in_err-job-clause-lacking g c =
    anyway c.from_residual-in_err-job.result (none_asked (asks_of c.args.about.now.value (plan_seen c.args.plan.now.value) c.args.number) (g.C.Chooser.counts c.args.chooser.now) c.args.steps.now)

pub returns-clause-bounded : goal.returns-clause-bounded
returns-clause-bounded g c =
    let job = c.in_ok-job.job in
    subst (λ keys. c.play_noted.new.steps ≤ c.args.steps.now + all_costs keys)
    (asked_alike job.about.value c.args.about.now.value (plan_seen job.plan.value) (plan_seen c.args.plan.now.value) job.number c.args.number
    c.in_ok-job.ensures.about (ap plan_seen c.in_ok-job.ensures.plan) c.in_ok-job.ensures.number)
    c.play_noted.ensures.bounded
