use Rattle.std.proofs.Common.{◌-◌, sym, ◌∙◌, arith}
use Rattle.rc_value.proofs.Innermost.{passed_at}
use Rattle.rc_value.proofs.cycling.innermost.Goals as goal

pub loop-at-preserved : goal.loop-at-preserved
loop-at-preserved c =
    let invariant = c.loop-at.invariant in
    let some = c.loop-at-test.true in (
      omega (arith, invariant.0),
      passed_at c.args.about.now.sheet c.args.class c.args.frames.now c.loop-at.at (c.loop-at.at - 1) _ (omega (arith, some)) (omega (arith, some, invariant.0))
          (sym c.is_stage_of.ensures ∙ c.if-is_stage_of.false) invariant.1,
    )
