use Rattle.std.proofs.Common.{arith}
use Rattle.rc_value.specs.Cards.{value_seen}
use Rattle.rc_value.specs.Scene.{scene_seen}
use Rattle.rc_value.specs.Sought.{sought_value}
use Rattle.rc_value.proofs.OverLemmas.{over_on, over_stop, over_end}
use Rattle.rc_value.proofs.sought.are_one_by_one.Goals as goal

pub loop-place-preserved : goal.loop-place-preserved
loop-place-preserved c =
    over_on c.args.any (sought_value (scene_seen c.args.scene.now) c.args.sought) c.args.cards.now c.loop-place.place (value_seen c.at.result) c.is_as_sought.result _
    (omega (arith, c.len-place-end.ensures.count)) c.at.ensures c.is_as_sought.ensures c.if-is_as_sought-any.false c.loop-place.invariant

pub returns-then-is_as_sought-any : goal.returns-then-is_as_sought-any
returns-then-is_as_sought-any c =
    over_stop c.args.any (sought_value (scene_seen c.args.scene.now) c.args.sought) c.args.cards.now c.loop-place.place (value_seen c.at.result) c.is_as_sought.result _
    (omega (arith, c.len-place-end.ensures.count)) c.at.ensures c.is_as_sought.ensures c.if-is_as_sought-any.true c.loop-place.invariant

pub returns : goal.returns
returns c =
    over_end c.args.any (sought_value (scene_seen c.args.scene.now) c.args.sought) c.args.cards.now c.loop-place.place _
    (omega (arith, c.len-place-end.ensures.count)) c.loop-place.invariant
