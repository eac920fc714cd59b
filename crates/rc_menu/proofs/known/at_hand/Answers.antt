use Rattle.std.proofs.Common.{sym, subst}
use Rattle.rc_ast.specs.Expressions.{test_seen}
use Rattle.rc_menu.specs.Known.{IsAtHand}
use Rattle.rc_value.specs.Scene.{scene_seen}
use Rattle.rc_menu.proofs.KnownLemmas.{turned_hand}
use Rattle.rc_menu.proofs.known.at_hand.Goals as goal

pub returns : goal.returns
returns c =
    subst (IsAtHand (scene_seen c.args.scene.now) c.args.scope.now (test_seen c.args.test.now)) (sym c.turned_if.ensures)
    (turned_hand (scene_seen c.args.scene.now) c.args.scope.now c.plain_of-opposite.result.1 (test_seen c.plain_of-opposite.result.0.now) (test_seen c.args.test.now) c.plain_at_hand.result
    c.plain_of-opposite.ensures c.plain_at_hand.ensures)
