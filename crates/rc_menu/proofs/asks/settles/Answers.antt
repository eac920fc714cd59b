use Rattle.std.proofs.Common.{refl, sym, subst}
use Rattle.rc_ast.specs.Expressions.{test_seen}
use Rattle.rc_menu.specs.Asks.{AllFit}
use Rattle.rc_value.specs.Scene.{scene_seen}
use Rattle.rc_menu.proofs.AskLemmas.{all_fit_more, joined_asked, joined_known}
use Rattle.rc_menu.proofs.asks.settles.Goals as goal

pub returns-in-OfCard-clause-joined : goal.returns-in-OfCard-clause-joined
returns-in-OfCard-clause-joined c =
    joined_asked (scene_seen c.args.scene.now) c.args.scope.now (test_seen c.args.test.now) c.args.any c.args.asks.now.items c.push.new.self.items c.ask_by.result
    c.push.ensures.items c.ask_by.ensures.value

pub returns-in-OfCard-clause-fit : goal.returns-in-OfCard-clause-fit
returns-in-OfCard-clause-fit c =
    subst (AllFit c.args.scope.now) (sym c.push.ensures.items)
    (all_fit_more (scene_seen c.args.scene.now) c.args.scope.now c.args.asks.now.items c.ask_by.result c.requires.fit c.ask_by.ensures.fits)

pub returns-in-Holds-clause-joined : goal.returns-in-Holds-clause-joined
returns-in-Holds-clause-joined c =
    joined_known (scene_seen c.args.scene.now) c.args.scope.now (test_seen c.args.test.now) c.args.any c.in-Holds.holds _ c.args.asks.now.items _
    refl c.in-Holds.ensures refl
