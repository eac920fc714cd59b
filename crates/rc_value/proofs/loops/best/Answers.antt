use Rattle.std.proofs.Common.{if◌then◌else◌, int_lt, arith}
use Rattle.rc_play_spec.specs.Value.{int_more, worth}
use Rattle.rc_value.specs.Cards.{value_seen}
use Rattle.rc_value.specs.Scene.{scene_seen}
use Rattle.rc_value.proofs.Best.{best_step}
use Rattle.rc_value.proofs.loops.best.Goals as goal

pub loop-place-preserved : goal.loop-place-preserved
loop-place-preserved c =
    best_step (if c.args.largest then int_more else int_lt) (worth (scene_seen c.args.scene.now) c.args.map) c.args.cards.now c.loop-place.place (value_seen c.loop-place.found) (value_seen c.better-found.result) (value_seen c.at.result) _
    (omega (arith, c.loop-place-test.true, c.len-count.ensures.count)) c.at.ensures c.better-found.ensures c.loop-place.invariant
