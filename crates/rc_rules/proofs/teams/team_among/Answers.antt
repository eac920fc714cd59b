use Rattle.std.proofs.Common.{true, false, ap, arith}
use Rattle.rc_play_spec.specs.Shape as shape
use Rattle.rc_rules.proofs.TeamLemmas.{among, team_among_drop, team_items}
use Rattle.rc_rules.proofs.teams.team_among.Goals as goal

pub returns-then-contains : goal.returns-then-contains
returns-then-contains c =
    let here = team_among_drop c.deref-team-items.result.now c.loop-team.team-index c.team-item.result c.args.player true
    c.loop-team-test.true c.team-item.is (among c.args.player c.deref.result.now c.team-item.result.items c.contains.result true c.contains.ensures.value c.deref.ensures.value c.if-contains.true) in
    let same = c.loop-team.invariant.same in
    let all = ap (λ teams. shape.team_among (team_items teams) c.args.player) c.deref-team-items.ensures.value in
    omega (arith, here, same, all)

pub loop-team-preserved : goal.loop-team-preserved
loop-team-preserved c =
    let here = team_among_drop c.deref-team-items.result.now c.loop-team.team-index c.team-item.result c.args.player false
    c.loop-team-test.true c.team-item.is (among c.args.player c.deref.result.now c.team-item.result.items c.contains.result false c.contains.ensures.value c.deref.ensures.value c.if-contains.false) in
    let same = c.loop-team.invariant.same in
    let place = c.loop-team.invariant.place in
    record { place = omega (arith, place); same = omega (arith, here, same) }
