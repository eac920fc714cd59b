use Rattle.std.proofs.Common.{◌≤◌, ◌<◌, ℕ, nat_le, length, sym, arith}
use Rattle.std.proofs.lemmas.Bool.{le-leb, lt-leb}
use Rattle.rc_play_spec.specs.House.{points_in}
use Rattle.std.proofs.lemmas.List.{length-map}
use Rattle.rc_rules.specs.Plan.{plan_seen, strategy_seen}
use Rattle.rc_rules.specs.Record.{record_seen}
use Rattle.rc_measure.proofs.CodeLemmas.{all_below_more, fails_below}
use Rattle.rc_measure.proofs.leads.is_best_in.Goals as goal

pub returns-then-points_in-most : goal.returns-then-points_in-most
returns-then-points_in-most c =
    let points = λ (k : ℕ). points_in (plan_seen c.args.plan.now) k (record_seen c.args.played.now) in
    let less : points c.args.strategy < points c.loop-other.other = omega (arith, c.if-points_in-most.true, c.points_in.ensures.points, c.points_in-most.ensures.points) in
    sym (fails_below (λ k. nat_le (points k) (points c.args.strategy)) (length (plan_seen c.args.plan.now).strategies) c.loop-other.other
    (omega (arith, c.loop-other-test.true, c.len-other-end.ensures, length-map c.args.plan.now.strategies.items strategy_seen))
    (lt-leb (points c.loop-other.other) (points c.args.strategy) less))

pub loop-other-preserved : goal.loop-other-preserved
loop-other-preserved c =
    let points = λ (k : ℕ). points_in (plan_seen c.args.plan.now) k (record_seen c.args.played.now) in
    let le : points c.loop-other.other ≤ points c.args.strategy = omega (arith, c.if-points_in-most.false, c.points_in.ensures.points, c.points_in-most.ensures.points) in
    all_below_more (λ k. nat_le (points k) (points c.args.strategy)) c.loop-other.other c.loop-other.invariant (le-leb (points c.loop-other.other) (points c.args.strategy) le)
