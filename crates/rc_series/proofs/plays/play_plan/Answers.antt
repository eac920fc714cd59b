use Rattle.std.proofs.Common.{map, ap, ◌∙◌}
use Rattle.rc_play_spec.specs.House.{standings_of}
use Rattle.rc_rules.specs.Plan.{plan_seen}
use Rattle.rc_series.specs.Series.{played_seen}
use Rattle.rc_series.proofs.NamedLemmas.{all_records, all_told}
use Rattle.rc_series.proofs.OwnLemmas.{all_made, some_made}
use Rattle.rc_series.proofs.plays.play_plan.Goals as goal

pub returns-in_err-series_from-in-Ok-clause-rises : goal.returns-in_err-series_from-in-Ok-clause-rises
returns-in_err-series_from-in-Ok-clause-rises g c =
    (all_made c.args.about.now.value c.args.plan.now.value c.args.steps.now c.records_of-records.new.steps c.requires.name.1 c.in_ok-choices.ensures.memo
    c.into_memo.ensures c.close-totals.ensures.legal c.one_worker_has_the_hits_of_its_looks.ensures c.in-Ok.ensures.asked).3

pub returns-in_err-series_from-in-Ok-clause-bounded : goal.returns-in_err-series_from-in-Ok-clause-bounded
returns-in_err-series_from-in-Ok-clause-bounded g c =
    (all_made c.args.about.now.value c.args.plan.now.value c.args.steps.now c.records_of-records.new.steps c.requires.name.1 c.in_ok-choices.ensures.memo
    c.into_memo.ensures c.close-totals.ensures.legal c.one_worker_has_the_hits_of_its_looks.ensures c.in-Ok.ensures.asked).4

pub returns-in_ok-series_from-in-Ok-clause-looks : goal.returns-in_ok-series_from-in-Ok-clause-looks
returns-in_ok-series_from-in-Ok-clause-looks g c =
    ap (λ t. t.looks) c.in_ok-series_from-in-Ok.ensures.totals ∙ c.close-totals.ensures.looks
    ∙ (all_made c.args.about.now.value c.args.plan.now.value c.args.steps.now c.records_of-records.new.steps c.requires.name.1 c.in_ok-choices.ensures.memo
    c.into_memo.ensures c.close-totals.ensures.legal c.one_worker_has_the_hits_of_its_looks.ensures c.in-Ok.ensures.asked).0

pub returns-in_ok-series_from-in-Ok-clause-hits : goal.returns-in_ok-series_from-in-Ok-clause-hits
returns-in_ok-series_from-in-Ok-clause-hits g c =
    ap (λ t. t.hits) c.in_ok-series_from-in-Ok.ensures.totals ∙ c.close-totals.ensures.hits
    ∙ (all_made c.args.about.now.value c.args.plan.now.value c.args.steps.now c.records_of-records.new.steps c.requires.name.1 c.in_ok-choices.ensures.memo
    c.into_memo.ensures c.close-totals.ensures.legal c.one_worker_has_the_hits_of_its_looks.ensures c.in-Ok.ensures.asked).1

pub returns-in_ok-series_from-in-Ok-clause-counted : goal.returns-in_ok-series_from-in-Ok-clause-counted
returns-in_ok-series_from-in-Ok-clause-counted g c =
    (all_made c.args.about.now.value c.args.plan.now.value c.args.steps.now c.records_of-records.new.steps c.requires.name.1 c.in_ok-choices.ensures.memo
    c.into_memo.ensures c.close-totals.ensures.legal c.one_worker_has_the_hits_of_its_looks.ensures c.in-Ok.ensures.asked).2

pub returns-in_ok-series_from-in-Ok-clause-rises : goal.returns-in_ok-series_from-in-Ok-clause-rises
returns-in_ok-series_from-in-Ok-clause-rises g c =
    (all_made c.args.about.now.value c.args.plan.now.value c.args.steps.now c.records_of-records.new.steps c.requires.name.1 c.in_ok-choices.ensures.memo
    c.into_memo.ensures c.close-totals.ensures.legal c.one_worker_has_the_hits_of_its_looks.ensures c.in-Ok.ensures.asked).3

pub returns-in_ok-series_from-in-Ok-clause-bounded : goal.returns-in_ok-series_from-in-Ok-clause-bounded
returns-in_ok-series_from-in-Ok-clause-bounded g c =
    (all_made c.args.about.now.value c.args.plan.now.value c.args.steps.now c.records_of-records.new.steps c.requires.name.1 c.in_ok-choices.ensures.memo
    c.into_memo.ensures c.close-totals.ensures.legal c.one_worker_has_the_hits_of_its_looks.ensures c.in-Ok.ensures.asked).4

pub returns-in-Err-clause-rises : goal.returns-in-Err-clause-rises
returns-in-Err-clause-rises g c =
    (some_made c.args.about.now.value c.args.plan.now.value c.args.steps.now c.records_of-records.new.steps c.requires.name.1 c.in_ok-choices.ensures.memo
    c.into_memo.ensures c.close-totals.ensures.legal c.one_worker_lacking_memory_takes_no_more_steps.ensures c.in-Err.ensures.lacking).0

pub returns-in-Err-clause-bounded : goal.returns-in-Err-clause-bounded
returns-in-Err-clause-bounded g c =
    (some_made c.args.about.now.value c.args.plan.now.value c.args.steps.now c.records_of-records.new.steps c.requires.name.1 c.in_ok-choices.ensures.memo
    c.into_memo.ensures c.close-totals.ensures.legal c.one_worker_lacking_memory_takes_no_more_steps.ensures c.in-Err.ensures.lacking).1

pub returns-in_ok-series_from-in-Ok-clause-matches : goal.returns-in_ok-series_from-in-Ok-clause-matches
returns-in_ok-series_from-in-Ok-clause-matches g c =
    let about = c.args.about.now.value in
    let plan = c.args.plan.now.value in
    (all_told about (plan_seen plan) c.args.noted c.in-Ok.matches.items c.in_ok-series_from-in-Ok.field-0.named (c.in-Ok.ensures.are ∙ all_records about plan)
    c.in-Ok.ensures.noted c.in_ok-series_from-in-Ok.ensures.matches (c.in_ok-series_from-in-Ok.ensures.standings ∙ ap (λ p. standings_of (plan_seen p) (map played_seen c.in-Ok.matches.items)) c.deref.ensures) c.in_ok-series_from-in-Ok.ensures.bounds).0

pub returns-in_ok-series_from-in-Ok-clause-standings : goal.returns-in_ok-series_from-in-Ok-clause-standings
returns-in_ok-series_from-in-Ok-clause-standings g c =
    let about = c.args.about.now.value in
    let plan = c.args.plan.now.value in
    (all_told about (plan_seen plan) c.args.noted c.in-Ok.matches.items c.in_ok-series_from-in-Ok.field-0.named (c.in-Ok.ensures.are ∙ all_records about plan)
    c.in-Ok.ensures.noted c.in_ok-series_from-in-Ok.ensures.matches (c.in_ok-series_from-in-Ok.ensures.standings ∙ ap (λ p. standings_of (plan_seen p) (map played_seen c.in-Ok.matches.items)) c.deref.ensures) c.in_ok-series_from-in-Ok.ensures.bounds).1

pub returns-in_ok-series_from-in-Ok-clause-named : goal.returns-in_ok-series_from-in-Ok-clause-named
returns-in_ok-series_from-in-Ok-clause-named g c =
    let about = c.args.about.now.value in
    let plan = c.args.plan.now.value in
    (all_told about (plan_seen plan) c.args.noted c.in-Ok.matches.items c.in_ok-series_from-in-Ok.field-0.named (c.in-Ok.ensures.are ∙ all_records about plan)
    c.in-Ok.ensures.noted c.in_ok-series_from-in-Ok.ensures.matches (c.in_ok-series_from-in-Ok.ensures.standings ∙ ap (λ p. standings_of (plan_seen p) (map played_seen c.in-Ok.matches.items)) c.deref.ensures) c.in_ok-series_from-in-Ok.ensures.bounds).2
