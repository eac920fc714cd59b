use Rattle.std.proofs.Common.{rules}
use Rattle.rc_table.proofs.RunSteps.{run_more}
use Rattle.rc_table.proofs.runs.run_of.Goals as goal

pub loop-at-preserved : goal.loop-at-preserved
loop-at-preserved c =
    let loop = c.loop-at in
    let more = run_more c.args.stand.now c.args.ids.now c.args.from c.args.flags.now loop.flags loop.at (search rules)
    loop.invariant.flags loop.invariant.fresh loop.invariant.one (search rules) (search rules) in
    record {
      flags = more.0;
      fresh = more.1;
      one = more.2;
    }
