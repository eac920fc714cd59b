use Rattle.std.proofs.Common.{◌≡◌, ◌+◌, ◌*◌, List, [], length, get_or, drop, replicate, sym, ap, ◌∙◌, arith}
use Rattle.std.proofs.lemmas.List.{drop_all}
use Rattle.rc_rules.specs.Plan.{plan_seen}
use Rattle.rc_rules.specs.declared.record.MatchRecord.{MatchRecord}
use Rattle.rc_measure.specs.declared.tally.Tally.{Tally}
use Rattle.rc_measure.specs.Groups.{counted_in_all, no_choice}
use Rattle.rc_measure.specs.Seen.{tally_seen}
use Rattle.rc_measure.proofs.GroupLemmas.{all_at_most, counted_match, counted_is}
use Rattle.rc_measure.proofs.tally.tallies_by.Goals as goal

pub loop-played-preserved : goal.loop-played-preserved
loop-played-preserved c =
    let plan = plan_seen c.args.plan.now in
    let ms = c.args.matches.now in
    let i = c.loop-played.played-index in
    let r = c.played-item.result in
    let few = c.requires.few i r c.loop-played-test.true in
    record {
      is = counted_match plan c.args.by ms i c.loop-played.tallies c.count_match.new.tallies r c.loop-played-test.true c.played-item.is c.count_match.ensures.tallies
          ∙ c.loop-played.invariant.is;
      small = all_at_most (33554432 * i + length r.picks.items) (33554432 * (i + 1)) c.count_match.new.tallies
          (omega (arith, few, ap (λ (r : MatchRecord). length r.picks.items) c.played-item.is))
          (c.count_match.ensures.small (33554432 * i) c.loop-played.invariant.small);
    }

pub returns-clause-tallies : goal.returns-clause-tallies
returns-clause-tallies c =
    let plan = plan_seen c.args.plan.now in
    let ms = c.args.matches.now in
    let past : drop c.loop-played.played-index ms ≡ [] = drop_all c.loop-played.played-index ms (omega (arith, c.loop-played-test.false)) in
    let done : c.loop-played.tallies ≡ counted_in_all plan c.args.by ms (replicate 64 no_choice) =
    sym (ap (λ ms. counted_in_all plan c.args.by ms c.loop-played.tallies) past) ∙ c.loop-played.invariant.is in
    λ k d less. ap (λ (tallies : List Tally). tally_seen (get_or tallies k d)) done ∙ counted_is plan c.args.by ms k d less
