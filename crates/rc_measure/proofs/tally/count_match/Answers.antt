use Rattle.std.proofs.Common.{◌≤◌, ◌+◌, length, drop, sym, ap, ◌∙◌, arith}
use Rattle.rc_rules.specs.Plan.{plan_seen}
use Rattle.rc_measure.specs.Groups.{counted}
use Rattle.rc_measure.proofs.GroupLemmas.{all_at_most, counted_step}
use Rattle.rc_measure.proofs.tally.count_match.Goals as goal

pub count-requires : goal.count-requires
count-requires c =
    let before = c.loop-pick.invariant.small 137405399040 c.requires.small in
    record {
      small = all_at_most (137405399040 + c.loop-pick.pick-index) 137438953471 c.loop-pick.tallies
          (omega (arith, c.loop-pick-test.true, c.requires.few, c.deref-pick-items.ensures.len)) before;
    }

pub loop-pick-preserved : goal.loop-pick-preserved
loop-pick-preserved c =
    let plan = plan_seen c.args.plan.now in
    let m = c.args.played.now.number in
    let picks = c.deref-pick-items.result.now in
    let same = c.deref-pick-items.ensures.value in
    let i = c.loop-pick.pick-index in
    record {
      is = ap (λ picks. counted plan c.args.by m (drop (i + 1) picks) c.count.new.tallies) (sym same)
          ∙ counted_step plan c.args.by m picks i c.loop-pick.tallies c.count.new.tallies c.group_of.result _ c.loop-pick-test.true c.group_of.ensures c.count.ensures.tallies
          ∙ ap (λ picks. counted plan c.args.by m (drop i picks) c.loop-pick.tallies) same ∙ c.loop-pick.invariant.is;
      small = λ n all. all_at_most (n + i + 1) (n + (i + 1)) c.count.new.tallies (omega arith) (c.count.ensures.small (n + i) (c.loop-pick.invariant.small n all));
    }

pub returns-clause-small : goal.returns-clause-small
returns-clause-small c =
    let picks = c.args.played.now.picks.items in
    let all : c.loop-pick.pick-index ≤ length picks = omega (arith, c.loop-pick.auto.pick-index-end, c.deref-pick-items.ensures.len) in
    λ n before. all_at_most (n + c.loop-pick.pick-index) (n + length picks) c.loop-pick.tallies (omega (arith, all)) (c.loop-pick.invariant.small n before)
