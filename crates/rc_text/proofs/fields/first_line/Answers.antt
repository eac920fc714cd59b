use Rattle.std.proofs.Common.{arith}
use Rattle.rc_text.proofs.Cuts.{one_more, cut_at, none_at}
use Rattle.rc_text.proofs.fields.first_line.Goals as goal

pub returns-then-bytes-at-eq10-clause-found : goal.returns-then-bytes-at-eq10-clause-found
returns-then-bytes-at-eq10-clause-found c = cut_at c.args.bytes.now c.loop-at.at c.loop-at-test.true c.loop-at.invariant.one c.if-bytes-at-eq10.true

pub loop-at-preserved : goal.loop-at-preserved
loop-at-preserved c =
    record {
      one = one_more c.args.bytes.now c.loop-at.at c.loop-at-test.true c.loop-at.invariant.one c.if-bytes-at-eq10.false;
      inside = omega (arith, c.loop-at-test.true);
    }

pub returns-clause-none : goal.returns-clause-none
returns-clause-none c = none_at c.args.bytes.now c.loop-at.at c.loop-at-test.false c.loop-at.invariant.one
