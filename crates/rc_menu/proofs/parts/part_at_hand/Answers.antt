use Rattle.std.proofs.Common.{sym, subst}
use Rattle.rc_code.specs.Guards.{part_meant, guard_test_meant}
use Rattle.rc_menu.specs.Known.{IsAtHand}
use Rattle.rc_value.specs.Scene.{scene_seen}
use Rattle.rc_menu.proofs.KnownLemmas.{turned_hand}
use Rattle.rc_menu.proofs.parts.part_at_hand.Goals as goal

pub returns : goal.returns
returns c =
    subst (IsAtHand (scene_seen c.args.scene.now) c.args.scope.now (part_meant c.args.part.now)) (sym c.turned_if.ensures)
    (turned_hand (scene_seen c.args.scene.now) c.args.scope.now c.is_opposite.result (guard_test_meant c.args.part.now.guard_test) (part_meant c.args.part.now) c.guard_test_at_hand-hand.result
    (c.is_opposite.ensures (guard_test_meant c.args.part.now.guard_test)) c.guard_test_at_hand-hand.ensures)
