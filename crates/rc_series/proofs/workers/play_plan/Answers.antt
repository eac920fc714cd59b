use Rattle.std.proofs.Common.{◌<◌, ◌≤◌, length, map, sym, ap, ◌∙◌, subst, arith}
use Rattle.rc_play_spec.specs.House.{standings_of}
use Rattle.rc_rules.specs.Plan.{plan_seen}
use Rattle.rc_cache.specs.Memos.{shared_counts}
use Rattle.rc_series.specs.Series.{looks_of, played_seen}
use Rattle.rc_series.specs.Gathered.{RiseTogether}
use Rattle.rc_series.proofs.NamedLemmas.{all_told}
use Rattle.rc_series.proofs.LaneLemmas.{idle_count, all_looked, all_answered, some_missed}
use Rattle.rc_series.proofs.workers.play_plan.Goals as goal

pub play_shared-requires-clause-memos : goal.play_shared-requires-clause-memos
play_shared-requires-clause-memos g c κs within =
    let many = ap length (c.in-Ok-memos_of.ensures ∙ c.in-Ok.ensures.lanes) ∙ idle_count c.args.workers in
    let least = c.requires.some.0 in
    let most = c.requires.some.1 in
    (omega (arith, many, least), omega (arith, many, most))

pub close-totals-requires : goal.close-totals-requires
close-totals-requires g c =
    record { all = c.in-Ok-play_shared.ensures.lanes ∙ ap length (c.in-Ok-memos_of.ensures ∙ c.in-Ok.ensures.lanes) ∙ idle_count c.args.workers ∙ c.requires.name.2 }

pub returns-clause-book : goal.returns-clause-book
returns-clause-book g c =
    let same = c.in-Ok-series_from.ensures.totals in (
      ap (λ t. t.capacity) same ∙ c.close-totals.ensures.book.0 ∙ sym c.requires.name.1,
      ap (λ t. t.lanes) same ∙ c.close-totals.ensures.book.1 ∙ sym c.requires.name.2,
    )

pub returns-clause-looks : goal.returns-clause-looks
returns-clause-looks g c =
    let looks = length (looks_of c.args.about.now.value (plan_seen c.args.plan.now.value)) in
    let lanes = c.in-Ok-play_shared.played.1.items in
    let rise = subst (λ memos. RiseTogether looks (map shared_counts memos) (map shared_counts lanes)) (c.in-Ok-memos_of.ensures ∙ c.in-Ok.ensures.lanes) c.in-Ok-play_shared.ensures.rise in
    ap (λ t. t.looks) c.in-Ok-series_from.ensures.totals ∙ c.close-totals.ensures.looks.1 ∙ all_looked looks c.args.workers lanes rise

pub returns-clause-hits : goal.returns-clause-hits
returns-clause-hits g c =
    let looks = length (looks_of c.args.about.now.value (plan_seen c.args.plan.now.value)) in
    let lanes = c.in-Ok-play_shared.played.1.items in
    let rise = subst (λ memos. RiseTogether looks (map shared_counts memos) (map shared_counts lanes)) (c.in-Ok-memos_of.ensures ∙ c.in-Ok.ensures.lanes) c.in-Ok-play_shared.ensures.rise in
    let looked = c.close-totals.ensures.looks.1 ∙ all_looked looks c.args.workers lanes rise in
    let answered = all_answered looks c.args.workers lanes rise in
    let hits = c.close-totals.ensures.hits.1 in
    subst (λ t. t.hits ≤ t.looks) (sym c.in-Ok-series_from.ensures.totals) (omega (arith, looked, answered, hits))

pub returns-clause-missed : goal.returns-clause-missed
returns-clause-missed g c =
    let looks = length (looks_of c.args.about.now.value (plan_seen c.args.plan.now.value)) in
    let lanes = c.in-Ok-play_shared.played.1.items in
    let rise = subst (λ memos. RiseTogether looks (map shared_counts memos) (map shared_counts lanes)) (c.in-Ok-memos_of.ensures ∙ c.in-Ok.ensures.lanes) c.in-Ok-play_shared.ensures.rise in
    let looked = c.close-totals.ensures.looks.1 ∙ all_looked looks c.args.workers lanes rise in
    let answered = all_answered looks c.args.workers lanes rise in
    let hits = c.close-totals.ensures.hits.1 in
    let keeps = c.close-totals.ensures.keeps.1 in
    subst (λ t. 0 < t.looks → t.hits < t.looks) (sym c.in-Ok-series_from.ensures.totals)
    (some_missed c.close-totals.result.looks c.close-totals.result.hits c.close-totals.result.keeps (omega (arith, looked, answered, hits, keeps)) c.close-totals.ensures.unkept)

pub returns-clause-matches : goal.returns-clause-matches
returns-clause-matches g c =
    let about = c.args.about.now.value in
    let plan = plan_seen c.args.plan.now.value in
    (all_told about plan c.args.noted c.in-Ok-play_shared.played.0.items c.in-Ok-series_from.series.named c.in-Ok-play_shared.ensures.records
    c.in-Ok-play_shared.ensures.noted c.in-Ok-series_from.ensures.matches (c.in-Ok-series_from.ensures.standings ∙ ap (λ p. standings_of (plan_seen p) (map played_seen c.in-Ok-play_shared.played.0.items)) c.deref-2.ensures) c.in-Ok-series_from.ensures.bounds).0

pub returns-clause-standings : goal.returns-clause-standings
returns-clause-standings g c =
    let about = c.args.about.now.value in
    let plan = plan_seen c.args.plan.now.value in
    (all_told about plan c.args.noted c.in-Ok-play_shared.played.0.items c.in-Ok-series_from.series.named c.in-Ok-play_shared.ensures.records
    c.in-Ok-play_shared.ensures.noted c.in-Ok-series_from.ensures.matches (c.in-Ok-series_from.ensures.standings ∙ ap (λ p. standings_of (plan_seen p) (map played_seen c.in-Ok-play_shared.played.0.items)) c.deref-2.ensures) c.in-Ok-series_from.ensures.bounds).1

pub returns-clause-named : goal.returns-clause-named
returns-clause-named g c =
    let about = c.args.about.now.value in
    let plan = plan_seen c.args.plan.now.value in
    (all_told about plan c.args.noted c.in-Ok-play_shared.played.0.items c.in-Ok-series_from.series.named c.in-Ok-play_shared.ensures.records
    c.in-Ok-play_shared.ensures.noted c.in-Ok-series_from.ensures.matches (c.in-Ok-series_from.ensures.standings ∙ ap (λ p. standings_of (plan_seen p) (map played_seen c.in-Ok-play_shared.played.0.items)) c.deref-2.ensures) c.in-Ok-series_from.ensures.bounds).2
