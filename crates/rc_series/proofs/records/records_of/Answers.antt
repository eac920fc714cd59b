use Rattle.std.proofs.Common.{◌≡◌, ◌≤◌, ◌+◌, ◌∷◌, [], map, length, All, arith, rules, refl, sym, ap, subst, ◌∙◌}
use Rattle.std.proofs.lemmas.List.{length-append}
use Rattle.std.proofs.lemmas.List.Elements.{All-push, All-nil}
use Rattle.rc_redraw.specs.Choosing.{AsksAll}
use Rattle.rc_rules.specs.Plan.{plan_seen}
use Rattle.rc_match.specs.Asks.{asks_of}
use Rattle.rc_match.proofs.AskLemmas.{all_some, anyway}
use Rattle.rc_series.specs.Series.{IsNotedAs, looks_below, played_seen}
use Rattle.rc_series.proofs.NamedLemmas.{noted_as}
use Rattle.rc_series.proofs.SeriesLemmas.{asked_more, told_more, stopped_in}
use Rattle.rc_series.proofs.records.records_of.Goals as goal

pub loop-number-init : goal.loop-number-init
loop-number-init g c = record {
  are = ap (map played_seen) c.new-records.ensures.items;
  count = ap length c.new-records.ensures.items;
  each =
      let each : All (λ p. length p.record.scores.items ≡ c.args.about.now.value.sheet.players) [] = All-nil _ in
      subst (All (λ p. length p.record.scores.items ≡ c.args.about.now.value.sheet.players)) (sym c.new-records.ensures.items) each;
  noted =
      let none : All (IsNotedAs c.args.noted c.args.about.now.value (plan_seen c.args.plan.now.value)) [] =
      All-nil (IsNotedAs c.args.noted c.args.about.now.value (plan_seen c.args.plan.now.value)) in
      subst (All (IsNotedAs c.args.noted c.args.about.now.value (plan_seen c.args.plan.now.value))) (sym c.new-records.ensures.items) none;
  served = c.requires.served;
  asked = (refl, refl);
}

pub record_of-requires-clause-served : goal.record_of-requires-clause-served
record_of-requires-clause-served g c = c.loop-number.invariant.served

pub loop-number-preserved : goal.loop-number-preserved
loop-number-preserved g c =
    let about = c.args.about.now.value in
    let plan = plan_seen c.args.plan.now.value in
    let told = c.loop-number.records.items in
    let more = ap length c.in_ok-push.ensures.items ∙ length-append told (c.in_ok-played.played ∷ []) in
    record {
      are =
          ap (map played_seen) c.in_ok-push.ensures.items
          ∙ told_more about plan c.loop-number.number told c.in_ok-played.played c.in_ok-played.ensures.record c.loop-number.invariant.are;
      count = omega (arith, c.loop-number.invariant.count, more);
      each =
          subst (All (λ p. length p.record.scores.items ≡ c.args.about.now.value.sheet.players)) (sym c.in_ok-push.ensures.items)
          (All-push (λ p. length p.record.scores.items ≡ c.args.about.now.value.sheet.players) told c.in_ok-played.played c.loop-number.invariant.each c.in_ok-played.ensures.each);
      noted =
          subst (All (IsNotedAs c.args.noted about plan)) (sym c.in_ok-push.ensures.items)
          (All-push (IsNotedAs c.args.noted about plan) told c.in_ok-played.played c.loop-number.invariant.noted
          (noted_as about plan c.args.noted c.loop-number.number c.in_ok-played.played c.in_ok-played.ensures.record c.in_ok-played.ensures.noted));
      served = c.in_ok-played.ensures.same about c.loop-number.invariant.served;
      asked =
          asked_more about plan c.loop-number.number (g.C.Chooser.counts c.args.chooser.now) (g.C.Chooser.counts c.loop-number.chooser) (g.C.Chooser.counts c.record_of.new.chooser)
          c.args.steps.now c.loop-number.steps c.record_of.new.steps c.loop-number.invariant.asked c.in_ok-played.ensures.asked;
    }

pub returns-in_err-played-clause-lacking : goal.returns-in_err-played-clause-lacking
returns-in_err-played-clause-lacking g c =
    let about = c.args.about.now.value in
    let plan = plan_seen c.args.plan.now.value in
    let len : c.len-number-end.result ≡ length c.args.plan.now.value.matches.items = search rules in
    let few : c.loop-number.number + 1 ≤ length c.args.plan.now.value.matches.items = omega (arith, len, c.loop-number-test.true) in
    anyway c.from_residual.result (stopped_in about plan c.loop-number.number (length c.args.plan.now.value.matches.items)
    (g.C.Chooser.counts c.args.chooser.now) (g.C.Chooser.counts c.loop-number.chooser) (g.C.Chooser.counts c.record_of.new.chooser)
    c.args.steps.now c.loop-number.steps c.record_of.new.steps few c.loop-number.invariant.asked c.in_err-played.ensures.lacking)

pub returns-in_err-push-clause-lacking : goal.returns-in_err-push-clause-lacking
returns-in_err-push-clause-lacking g c =
    let about = c.args.about.now.value in
    let plan = plan_seen c.args.plan.now.value in
    let n = c.loop-number.number in
    let len : c.len-number-end.result ≡ length c.args.plan.now.value.matches.items = search rules in
    let few : n + 1 ≤ length c.args.plan.now.value.matches.items = omega (arith, len, c.loop-number-test.true) in
    let between = g.C.Chooser.counts c.loop-number.chooser in
    let after = g.C.Chooser.counts c.record_of.new.chooser in
    anyway c.from_residual-in_err-push.result (stopped_in about plan n (length c.args.plan.now.value.matches.items) (g.C.Chooser.counts c.args.chooser.now) between after
    c.args.steps.now c.loop-number.steps c.record_of.new.steps few c.loop-number.invariant.asked
    (all_some (asks_of about plan n) between after c.loop-number.steps c.record_of.new.steps c.in_ok-played.ensures.asked))

pub returns-clause-asked : goal.returns-clause-asked
returns-clause-asked g c =
    let ends : c.loop-number.number ≡ length c.args.plan.now.value.matches.items = search rules in
    subst (λ n. AsksAll (looks_below c.args.about.now.value (plan_seen c.args.plan.now.value) n) (g.C.Chooser.counts c.args.chooser.now) (g.C.Chooser.counts c.loop-number.chooser) c.args.steps.now c.loop-number.steps)
    ends c.loop-number.invariant.asked
