use Rattle.std.proofs.Common.{◌+◌, ◌-◌, sym, ap, ◌∙◌, arith}
use Rattle.rc_seatlog.proofs.RowLemmas.{behind_found, counts_more, counts_stop}
use Rattle.rc_log_spec.specs.Fields.{counts_in}
use Rattle.rc_seatlog.proofs.lines.counts_in.Goals as goal

pub returns-in-None : goal.returns-in-None
returns-in-None c =
    sym c.loop-i.invariant.reads ∙ counts_stop c.args.count c.loop-i.i 4294967295 c.loop-i.rest.now c.loop-i.found.items c.loop-i-test.true c.in-None.ensures.found

pub push-requires : goal.push-requires
push-requires c = omega (arith, c.loop-i.invariant.many, c.loop-i-test.true, c.requires.few)

pub loop-i-preserved : goal.loop-i-preserved
loop-i-preserved c =
    record {
      reads = ap (λ found. behind_found found (counts_in (c.args.count - (c.loop-i.i + 1)) 4294967295 c.in-Some.later.now)) c.push.ensures.items
          ∙ counts_more c.args.count c.loop-i.i 4294967295 c.loop-i.rest.now c.in-Some.n c.in-Some.later.now c.loop-i.found.items c.loop-i-test.true c.in-Some.ensures.found
          ∙ c.loop-i.invariant.reads;
      many = c.push.ensures.len ∙ ap (λ n. n + 1) c.loop-i.invariant.many;
    }
