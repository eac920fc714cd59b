use Rattle.rc_ast.specs.Expressions.{int_seen}
use Rattle.rc_value.specs.Scene.{scene_seen}
use Rattle.rc_menu.proofs.KnownLemmas.{known_pair}
use Rattle.rc_menu.proofs.known.compared_known.Goals as goal

pub returns-then-is_fixed_number-2 : goal.returns-then-is_fixed_number-2
returns-then-is_fixed_number-2 c =
    known_pair (scene_seen c.args.scene.now) c.args.scope.now c.args.how (int_seen c.args.a.now) (int_seen c.args.b.now) c.compared_at_hand.result
    (c.is_fixed_number.ensures c.if-is_fixed_number.true) (c.is_fixed_number-then-is_fixed_number.ensures c.if-is_fixed_number-2.true)
    c.compared_at_hand.ensures
