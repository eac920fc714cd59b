use Rattle.rc_rules.specs.Plan.{plan_seen}
use Rattle.rc_match.specs.Asks.{asks_of}
use Rattle.rc_series.proofs.WorkLemmas.{numbers_it, is_record, rises_so}
use Rattle.rc_series.proofs.turn.play.Goals as goal

pub returns-clause-number : goal.returns-clause-number
returns-clause-number g c =
    numbers_it c.args.about.now.value (plan_seen c.args.plan.now.value) c.args.number c.record_of.result c.record_of.ensures.record

pub returns-clause-record : goal.returns-clause-record
returns-clause-record g c =
    is_record c.args.noted c.args.about.now.value (plan_seen c.args.plan.now.value) c.args.number c.record_of.result c.record_of.ensures.record c.record_of.ensures.each c.record_of.ensures.noted

pub returns-clause-rise : goal.returns-clause-rise
returns-clause-rise g c =
    rises_so (asks_of c.args.about.now.value (plan_seen c.args.plan.now.value) c.args.number) c.record_of.result
    (g.C.Chooser.counts c.args.chooser.now) (g.C.Chooser.counts c.record_of.new.chooser) c.args.steps.now c.record_of.new.steps c.record_of.ensures.asked
