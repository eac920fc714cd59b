use Rattle.std.proofs.Common.{◌∙◌}
use Rattle.rc_resolve.specs.Known.{all_points_in, points_in}
use Rattle.rc_resolve.proofs.Steps.{step, points-split}
use Rattle.rc_resolve.proofs.known.Known.add_all_points.Goals as goal

pub loop-line-preserved : goal.loop-line-preserved
loop-line-preserved c =
    step all_points_in points_in points-split c.loop-line.self _ c.args.lines.now _ c.line-item.result
    c.loop-line-test.true c.line-item.is c.in_ok-add_points.ensures
    ∙ c.loop-line.invariant
