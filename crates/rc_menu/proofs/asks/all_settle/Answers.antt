use Rattle.std.proofs.Common.{◌++◌, ◌∷◌, [], arith, ap, sym, ◌∙◌}
use Rattle.rc_ast.specs.Expressions.{tests_seen}
use Rattle.rc_play_spec.specs.Value.{card_bound, tests_value}
use Rattle.rc_menu.specs.Asks.{joined}
use Rattle.rc_value.specs.Scene.{scene_seen}
use Rattle.rc_value.proofs.Steps.{tests_here}
use Rattle.rc_menu.proofs.AskLemmas.{settle_on, settle_stop, settle_end}
use Rattle.rc_menu.proofs.asks.all_settle.Goals as goal

pub loop-test-preserved : goal.loop-test-preserved
loop-test-preserved c =
    let e = tests_here c.deref-test-items.result.now c.loop-test.test-index c.test-item.result c.loop-test-test.true c.test-item.is in
    record {
      few = omega (arith, c.settles.ensures.count, c.loop-test.invariant.few);
      deep = omega (arith, c.loop-test.invariant.deep);
      fit = c.settles.ensures.fit;
      told =
          settle_on (scene_seen c.args.scene.now) c.args.scope.now c.deref-test-items.result.now c.args.any c.loop-test.test-index c.test-item.result c.settles.result c.loop-test.asks.items c.settles.new.asks.items
          c.loop-test-test.true c.test-item.is c.settles.ensures.joined c.loop-test.invariant.told c.if-settles.false;
    }

pub returns-then-settles-clause-joined : goal.returns-then-settles-clause-joined
returns-then-settles-clause-joined c = λ x.
    ap (λ ts. joined c.args.any (tests_value (scene_seen c.args.scene.now) (c.args.scope.now ++ card_bound x ∷ []) (tests_seen ts))) (sym c.deref-test-items.ensures.value)
    ∙ settle_stop (scene_seen c.args.scene.now) c.args.scope.now c.deref-test-items.result.now c.args.any c.loop-test.test-index c.test-item.result c.settles.result c.loop-test.asks.items c.settles.new.asks.items
    c.loop-test-test.true c.test-item.is c.settles.ensures.joined c.loop-test.invariant.told c.if-settles.true x

pub returns-clause-joined : goal.returns-clause-joined
returns-clause-joined c = λ x.
    ap (λ ts. joined c.args.any (tests_value (scene_seen c.args.scene.now) (c.args.scope.now ++ card_bound x ∷ []) (tests_seen ts))) (sym c.deref-test-items.ensures.value)
    ∙ settle_end (scene_seen c.args.scene.now) c.args.scope.now c.deref-test-items.result.now c.args.any c.loop-test.test-index c.loop-test.asks.items
    c.loop-test-test.false c.loop-test.invariant.told x
