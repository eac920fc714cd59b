use Rattle.std.proofs.Common.{rules}
use Rattle.rc_outside.proofs.SinkLemmas.{Got-take_more}
use Rattle.rc_outside.proofs.whole.write_all.Goals as goal

pub loop-done-preserved : goal.loop-done-preserved
loop-done-preserved g c = record {
  within = search rules;
  got = Got-take_more _ _ _ _ _ _ c.loop-done.invariant.got c.in-Ok.ensures.appends;
  steady = search rules;
  empty = search rules;
}
