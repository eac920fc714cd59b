use Rattle.std.proofs.Common.{◌≡◌, length, map, ap, sym, ◌∙◌, subst, rules}
use Rattle.std.specs.List.Sorted.{IsPermutation}
use Rattle.std.proofs.lemmas.List.{length-map}
use Rattle.std.proofs.lemmas.List.Sorted.{IsPermutation-refl}
use Rattle.rc_base.specs.Numbers.{below}
use Rattle.rc_rules.specs.Plan.{deal_seen, plan_seen}
use Rattle.rc_claims.specs.Claims.{fresh}
use Rattle.rc_series.specs.Turns.{asked_by_all, number_of}
use Rattle.rc_series.specs.Gathered.{RiseTogether}
use Rattle.rc_series.proofs.NumberLemmas.{length_range}
use Rattle.rc_series.proofs.GatherLemmas.{all_unmapped, fresh_workers, own_workers, own_turns, turns_from_index}
use Rattle.rc_series.proofs.FinishLemmas.{all_holders, all_looks, all_noted, all_records, all_scored, all_there, of_choosers}
use Rattle.rc_series.proofs.claiming.play_claimed.Goals as goal

pub workers_of-requires : goal.workers_of-requires
workers_of-requires g c =
    let counted : c.len.result ≡ length c.args.choosers.items = search rules in
    record { each = ap length c.in-Ok.ensures.passes ∙ length-map (below _) (fresh c.in-Ok.made.0.table) ∙ length_range 0 _ ∙ counted }

pub turns_of-requires-clause-own : goal.turns_of-requires-clause-own
turns_of-requires-clause-own g c κs within =
    fresh_workers c.in-Ok.made.0.table c.in-Ok-workers_of.workers.items (below _) (c.in-Ok-workers_of.ensures.passes ∙ c.in-Ok.ensures.passes)

pub turns_of-requires-clause-served : goal.turns_of-requires-clause-served
turns_of-requires-clause-served g c κs within =
    all_unmapped (λ w. w.chooser) (λ chooser. g.C.Chooser.serves chooser c.args.about.now.value) c.in-Ok-workers_of.workers.items c.args.choosers.items
    c.in-Ok-workers_of.ensures.choosers c.requires.served

pub gather-requires-clause-own : goal.gather-requires-clause-own
gather-requires-clause-own g c =
    let about = c.args.about.now.value in
    let plan = plan_seen c.args.plan.now.value in
    let workers = c.in-Ok-workers_of.workers.items in
    let turns = c.in-Ok-turns_of.turns.items in
    own_turns g.C.Chooser.name g.C.Chooser.counts c.args.noted about plan c.in-Ok.made.0.table workers turns
    (own_workers c.in-Ok.made.0.table workers (below _) (c.in-Ok-workers_of.ensures.passes ∙ c.in-Ok.ensures.passes))
    (turns_from_index g.C.Chooser.name g.C.Chooser.counts c.args.noted about plan workers turns c.in-Ok-turns_of.ensures.all c.in-Ok-turns_of.ensures.each)

pub close-drawn-requires-clause-all : goal.close-drawn-requires-clause-all
close-drawn-requires-clause-all g c =
    let about = c.args.about.now.value in
    let plan = plan_seen c.args.plan.now.value in
    let workers = c.in-Ok-workers_of.workers.items in
    let turns = c.in-Ok-turns_of.turns.items in
    let are = turns_from_index g.C.Chooser.name g.C.Chooser.counts c.args.noted about plan workers turns c.in-Ok-turns_of.ensures.all c.in-Ok-turns_of.ensures.each in
    let gathered = c.in-Ok-gather.ensures.gathered c.args.noted about plan workers are in
    let holders = all_holders c.in-Ok.made.0.table workers (below _) (c.in-Ok-workers_of.ensures.passes ∙ c.in-Ok.ensures.passes) in
    subst (IsPermutation (below c.in-Ok.made.0.passes)) (ap below c.in-Ok.ensures.claims.1 ∙ sym holders ∙ sym gathered.holders) (IsPermutation-refl (below c.in-Ok.made.0.passes))

pub returns-clause-records : goal.returns-clause-records
returns-clause-records g c =
    let about = c.args.about.now.value in
    let plan = plan_seen c.args.plan.now.value in
    let workers = c.in-Ok-workers_of.workers.items in
    let turns = c.in-Ok-turns_of.turns.items in
    let are = turns_from_index g.C.Chooser.name g.C.Chooser.counts c.args.noted about plan workers turns c.in-Ok-turns_of.ensures.all c.in-Ok-turns_of.ensures.each in
    let gathered = c.in-Ok-gather.ensures.gathered c.args.noted about plan workers are in
    let all = c.in-Ok-gather.gathered in
    all_records g.C.Chooser.name g.C.Chooser.counts c.args.noted about plan workers all.pass all.records.items c.in_order.result.items all.choosers.items c.close-drawn.result gathered
    c.close-drawn.ensures.drawn c.in_order.ensures.same c.in_order.ensures.up

pub returns-clause-count : goal.returns-clause-count
returns-clause-count g c =
    let about = c.args.about.now.value in
    let stored = c.args.plan.now.value in
    let plan = plan_seen stored in
    let workers = c.in-Ok-workers_of.workers.items in
    let turns = c.in-Ok-turns_of.turns.items in
    let are = turns_from_index g.C.Chooser.name g.C.Chooser.counts c.args.noted about plan workers turns c.in-Ok-turns_of.ensures.all c.in-Ok-turns_of.ensures.each in
    let gathered = c.in-Ok-gather.ensures.gathered c.args.noted about plan workers are in
    let all = c.in-Ok-gather.gathered in
    all_there g.C.Chooser.name g.C.Chooser.counts c.args.noted about plan workers all.pass all.records.items c.in_order.result.items all.choosers.items c.close-drawn.result gathered
    c.close-drawn.ensures.drawn c.in_order.ensures.same c.in_order.ensures.up
    ∙ length-map stored.matches.items deal_seen

pub returns-clause-each : goal.returns-clause-each
returns-clause-each g c =
    let about = c.args.about.now.value in
    let plan = plan_seen c.args.plan.now.value in
    let workers = c.in-Ok-workers_of.workers.items in
    let turns = c.in-Ok-turns_of.turns.items in
    let are = turns_from_index g.C.Chooser.name g.C.Chooser.counts c.args.noted about plan workers turns c.in-Ok-turns_of.ensures.all c.in-Ok-turns_of.ensures.each in
    let gathered = c.in-Ok-gather.ensures.gathered c.args.noted about plan workers are in
    let all = c.in-Ok-gather.gathered in
    all_scored g.C.Chooser.name g.C.Chooser.counts c.args.noted about plan workers all.pass all.records.items c.in_order.result.items all.choosers.items c.close-drawn.result gathered
    c.close-drawn.ensures.drawn c.in_order.ensures.same

pub returns-clause-noted : goal.returns-clause-noted
returns-clause-noted g c =
    let about = c.args.about.now.value in
    let plan = plan_seen c.args.plan.now.value in
    let workers = c.in-Ok-workers_of.workers.items in
    let turns = c.in-Ok-turns_of.turns.items in
    let are = turns_from_index g.C.Chooser.name g.C.Chooser.counts c.args.noted about plan workers turns c.in-Ok-turns_of.ensures.all c.in-Ok-turns_of.ensures.each in
    let gathered = c.in-Ok-gather.ensures.gathered c.args.noted about plan workers are in
    let all = c.in-Ok-gather.gathered in
    all_noted g.C.Chooser.name g.C.Chooser.counts c.args.noted about plan workers all.pass all.records.items c.in_order.result.items all.choosers.items c.close-drawn.result gathered
    c.close-drawn.ensures.drawn c.in_order.ensures.same

pub returns-clause-rise : goal.returns-clause-rise
returns-clause-rise g c =
    let about = c.args.about.now.value in
    let plan = plan_seen c.args.plan.now.value in
    let workers = c.in-Ok-workers_of.workers.items in
    let turns = c.in-Ok-turns_of.turns.items in
    let are = turns_from_index g.C.Chooser.name g.C.Chooser.counts c.args.noted about plan workers turns c.in-Ok-turns_of.ensures.all c.in-Ok-turns_of.ensures.each in
    let gathered = c.in-Ok-gather.ensures.gathered c.args.noted about plan workers are in
    let all = c.in-Ok-gather.gathered in
    let looks =
    all_looks g.C.Chooser.name g.C.Chooser.counts c.args.noted about plan workers all.pass all.records.items c.in_order.result.items all.choosers.items c.close-drawn.result gathered
    c.close-drawn.ensures.drawn in
    subst (λ n. RiseTogether n (map g.C.Chooser.counts c.args.choosers.items) (map g.C.Chooser.counts all.choosers.items)) looks
    (subst (λ before. RiseTogether (asked_by_all about plan (map number_of all.records.items)) before (map g.C.Chooser.counts all.choosers.items))
    (of_choosers g.C.Chooser.counts workers c.args.choosers.items c.in-Ok-workers_of.ensures.choosers) gathered.rise)

pub returns-clause-order : goal.returns-clause-order
returns-clause-order g c =
    let about = c.args.about.now.value in
    let plan = plan_seen c.args.plan.now.value in
    let workers = c.in-Ok-workers_of.workers.items in
    let turns = c.in-Ok-turns_of.turns.items in
    let are = turns_from_index g.C.Chooser.name g.C.Chooser.counts c.args.noted about plan workers turns c.in-Ok-turns_of.ensures.all c.in-Ok-turns_of.ensures.each in
    let gathered = c.in-Ok-gather.ensures.gathered c.args.noted about plan workers are in
    gathered.named ∙ of_choosers g.C.Chooser.name workers c.args.choosers.items c.in-Ok-workers_of.ensures.choosers
