use Rattle.std.proofs.Common.{get_or, arith}
use Rattle.std.proofs.lemmas.Int.{ints, clamps}
use Rattle.rc_play_spec.specs.Scene.{held}
use Rattle.rc_play_spec.specs.Value.{worth}
use Rattle.rc_value.specs.Scene.{scene_seen}
use Rattle.rc_value.proofs.Lists.{here_is}
use Rattle.rc_value.proofs.Best.{sum_more, sum_all}
use Rattle.rc_value.proofs.loops.sum_of_ids.Goals as goal

pub overflow_add-sum : goal.overflow_add-sum
overflow_add-sum c = omega (arith, ints, c.worth_of-sum.ensures.few, c.requires)

pub loop-place-preserved : goal.loop-place-preserved
loop-place-preserved c =
    let more =
    sum_more (λ id. worth (scene_seen c.args.scene.now) c.args.points (held id)) c.args.ids.now c.loop-place.place (get_or c.args.ids.now c.loop-place.place 0)
    c.loop-place-test.true (here_is c.args.ids.now c.loop-place.place 0 c.loop-place-test.true) in
    record {
      added = omega (arith, ints, more, c.worth_of-sum.ensures.worth);
      above = omega (arith, ints, c.worth_of-sum.ensures.few);
      below = omega (arith, ints, c.worth_of-sum.ensures.few);
    }

pub returns : goal.returns
returns c =
    let e = sum_all (λ id. worth (scene_seen c.args.scene.now) c.args.points (held id)) c.args.ids.now c.loop-place.place c.loop-place-test.false in
    omega (arith, ints, clamps, e, c.clamp.ensures.value)
