use Rattle.std.proofs.Common.{refl, ap, sym, subst, ◌∙◌}
use Rattle.rc_ast.specs.Expressions.{test_seen}
use Rattle.rc_flow.specs.Reads.{reads_test}
use Rattle.rc_menu.specs.Asks.{AllFit}
use Rattle.rc_value.specs.Scene.{scene_seen}
use Rattle.rc_menu.proofs.AskLemmas.{all_fit_more, joined_asked, joined_once}
use Rattle.rc_menu.proofs.asks.settles_whole.Goals as goal

pub returns-then-test_reads-clause-joined : goal.returns-then-test_reads-clause-joined
returns-then-test_reads-clause-joined c =
    joined_asked (scene_seen c.args.scene.now) c.args.scope.now (test_seen c.args.test.now) c.args.any c.args.asks.now.items c.push.new.self.items c.ask_of.result
    c.push.ensures.items c.ask_of.ensures.value

pub returns-clause-joined : goal.returns-clause-joined
returns-clause-joined c =
    joined_once (scene_seen c.args.scene.now) c.args.scope.now (test_seen c.args.test.now) c.args.any c.test_of.result _ c.args.asks.now.items c.with.result c.with.ensures
    (ap (λ k. reads_test k (test_seen c.args.test.now)) (sym c.len.ensures) ∙ sym c.test_reads.ensures ∙ c.if-test_reads.false) c.test_of.ensures refl

pub returns-then-test_reads-clause-fit : goal.returns-then-test_reads-clause-fit
returns-then-test_reads-clause-fit c =
    subst (AllFit c.args.scope.now) (sym c.push.ensures.items)
    (all_fit_more (scene_seen c.args.scene.now) c.args.scope.now c.args.asks.now.items c.ask_of.result c.requires.fit c.ask_of.ensures.fits)
