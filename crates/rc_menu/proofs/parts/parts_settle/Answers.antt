use Rattle.std.proofs.Common.{get_or, arith}
use Rattle.rc_value.specs.Scene.{scene_seen}
use Rattle.rc_value.proofs.Lists.{here_is}
use Rattle.rc_menu.proofs.PartLemmas.{no_part, part_on, part_stop, part_end}
use Rattle.rc_menu.proofs.parts.parts_settle.Goals as goal

pub loop-place-preserved : goal.loop-place-preserved
loop-place-preserved c =
    record {
      few = omega (arith, c.part_settles.ensures.count, c.loop-place.invariant.few);
      sought = c.part_settles.ensures.sought;
      told =
          part_on (scene_seen c.args.scene.now) c.args.scope.now c.args.parts.now c.args.any c.loop-place.place (get_or c.args.parts.now c.loop-place.place no_part) c.in-Some.settled c.loop-place.asks.items c.part_settles.new.asks.items
          c.loop-place-test.true (here_is c.args.parts.now c.loop-place.place no_part c.loop-place-test.true) c.in-Some.ensures.joined c.loop-place.invariant.told c.if-settled.false;
    }

pub returns-then-settled-clause-joined : goal.returns-then-settled-clause-joined
returns-then-settled-clause-joined c =
    part_stop (scene_seen c.args.scene.now) c.args.scope.now c.args.parts.now c.args.any c.loop-place.place (get_or c.args.parts.now c.loop-place.place no_part) c.in-Some.settled c.loop-place.asks.items c.part_settles.new.asks.items
    c.loop-place-test.true (here_is c.args.parts.now c.loop-place.place no_part c.loop-place-test.true) c.in-Some.ensures.joined c.loop-place.invariant.told c.if-settled.true

pub returns-clause-joined : goal.returns-clause-joined
returns-clause-joined c =
    part_end (scene_seen c.args.scene.now) c.args.scope.now c.args.parts.now c.args.any c.loop-place.place c.loop-place.asks.items
    c.loop-place-test.false c.loop-place.invariant.told
