use Rattle.std.proofs.Common.{◌≡◌, ◌<◌, ◌≤◌, length, All, sym, ◌∙◌, subst}
use Rattle.std.proofs.lemmas.List.{length-map}
use Rattle.rc_rules.specs.Plan.{deal_seen, plan_seen}
use Rattle.rc_series.proofs.WorkLemmas.{worked}
use Rattle.rc_series.proofs.turn.work.Goals as goal

pub returns : goal.returns
returns g c =
    let stored = c.args.plan.now.value in
    let plan = plan_seen stored in
    let same : c.args.claims.now.count ≡ length plan.matches = c.requires.count ∙ sym (length-map stored.matches.items deal_seen) in
    let is = c.loop-number.invariant in
    let none = c.in_default.ensures.none in
    worked c.args.noted c.args.about.now.value plan c.args.pass.now c.loop-number.pass c.claim.new.pass
    (g.C.Chooser.name c.args.chooser.now) (g.C.Chooser.name c.loop-number.chooser)
    (g.C.Chooser.counts c.args.chooser.now) (g.C.Chooser.counts c.loop-number.chooser) c.loop-number.records.items none.0
    (is.own ∙ sym c.requires.own) is.holders is.numbers
    (subst (λ count. All (λ n. n < count) c.loop-number.pass.numbers) same is.counted)
    (subst (λ count. count ≤ none.0) same none.1) none.2 is.are is.named is.rise
