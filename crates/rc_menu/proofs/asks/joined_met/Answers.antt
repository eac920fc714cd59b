use Rattle.rc_menu.specs.Asks.{met_value}
use Rattle.rc_menu.proofs.AskLemmas.{joined_on, joined_stop, joined_end}
use Rattle.rc_menu.proofs.asks.joined_met.Goals as goal

pub loop-place-preserved : goal.loop-place-preserved
loop-place-preserved c =
    joined_on (met_value c.args.id) c.args.any c.args.asks.now c.loop-place.place c.index-asks-place.result c.is_met.result _
    c.loop-place-test.true c.index-asks-place.is c.is_met.ensures c.if-is_met-any.false c.loop-place.invariant

pub returns-then-is_met-any : goal.returns-then-is_met-any
returns-then-is_met-any c =
    joined_stop (met_value c.args.id) c.args.any c.args.asks.now c.loop-place.place c.index-asks-place.result c.is_met.result _
    c.loop-place-test.true c.index-asks-place.is c.is_met.ensures c.if-is_met-any.true c.loop-place.invariant

pub returns : goal.returns
returns c =
    joined_end (met_value c.args.id) c.args.any c.args.asks.now c.loop-place.place _
    c.loop-place-test.false c.loop-place.invariant
