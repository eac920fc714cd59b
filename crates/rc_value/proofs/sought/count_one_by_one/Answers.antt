use Rattle.std.proofs.Common.{arith}
use Rattle.rc_value.specs.Cards.{value_seen}
use Rattle.rc_value.specs.Scene.{scene_seen}
use Rattle.rc_value.specs.Sought.{sought_value}
use Rattle.rc_value.proofs.Passing.{passed_on, passed_few, passed_end}
use Rattle.rc_value.proofs.sought.count_one_by_one.Goals as goal

pub loop-place-preserved : goal.loop-place-preserved
loop-place-preserved c =
    record {
      few = passed_few c.loop-place.count c.count_if-count.result c.loop-place.place c.is_as_sought.result c.count_if-count.ensures c.loop-place.invariant.few;
      told =
          passed_on (sought_value (scene_seen c.args.scene.now) c.args.sought) c.args.cards.now c.loop-place.place (value_seen c.at.result)
          c.loop-place.count c.count_if-count.result _ c.is_as_sought.result (omega (arith, c.len-place-end.ensures.count)) c.at.ensures
          c.is_as_sought.ensures c.count_if-count.ensures c.loop-place.invariant.told;
    }

pub returns-clause-count : goal.returns-clause-count
returns-clause-count c =
    passed_end (sought_value (scene_seen c.args.scene.now) c.args.sought) c.args.cards.now c.loop-place.place c.loop-place.count _
    (omega (arith, c.len-place-end.ensures.count)) c.loop-place.invariant.told
