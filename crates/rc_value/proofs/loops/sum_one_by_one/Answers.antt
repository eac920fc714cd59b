use Rattle.std.proofs.Common.{arith}
use Rattle.std.proofs.lemmas.Int.{ints, clamps}
use Rattle.rc_play_spec.specs.Value.{worth}
use Rattle.rc_value.specs.Cards.{value_seen}
use Rattle.rc_value.specs.Scene.{scene_seen}
use Rattle.rc_value.proofs.Best.{sum_more, sum_all}
use Rattle.rc_value.proofs.loops.sum_one_by_one.Goals as goal

pub overflow_add-sum : goal.overflow_add-sum
overflow_add-sum c = omega (arith, ints, c.worth_of-sum.ensures.few, c.len-place-end.ensures.few)

pub loop-place-preserved : goal.loop-place-preserved
loop-place-preserved c =
    let more =
    sum_more (worth (scene_seen c.args.scene.now) c.args.map) c.args.cards.now c.loop-place.place (value_seen c.at.result)
    (omega (arith, c.len-place-end.ensures.count)) c.at.ensures in
    record {
      added = omega (arith, ints, more, c.worth_of-sum.ensures.worth);
      above = omega (arith, ints, c.worth_of-sum.ensures.few);
      below = omega (arith, ints, c.worth_of-sum.ensures.few);
    }

pub returns : goal.returns
returns c =
    let e = sum_all (worth (scene_seen c.args.scene.now) c.args.map) c.args.cards.now c.loop-place.place (omega (arith, c.len-place-end.ensures.count)) in
    omega (arith, ints, clamps, e, c.clamp.ensures.value)
