use Rattle.std.proofs.Common.{ap, sym, subst, ◌∙◌}
use Rattle.std.specs.Prelude.{IfSome, ◌≡◌}
use Rattle.rc_play_spec.specs.Value.{attr_of_any, card_value}
use Rattle.rc_ast.specs.Expressions.{card_seen, test_seen}
use Rattle.rc_value.specs.Scene.{scene_seen}
use Rattle.rc_value.specs.Wanted.{IsFixed}
use Rattle.rc_value.proofs.WantedLemmas.{wanted_fixed, wanted_named}
use Rattle.rc_value.proofs.wanted.equal_at.Goals as goal

pub returns-then-is_fixed : goal.returns-then-is_fixed
returns-then-is_fixed c =
    wanted_fixed (scene_seen c.args.scene.now) c.args.place c.args.scope.now (test_seen c.args.test.now) (card_seen c.in-EqAttr.a.value) (card_seen c.in-EqAttr.b.value) c.in-EqAttr.name c.in-EqAttr.other
    c.value_at_hand.result c.equal_to.result
    (ap test_seen c.in-EqAttr.is)
    (sym (ap card_seen c.deref.ensures) ∙ c.is_variable.ensures c.if-is_variable.true)
    (subst (λ e. IsFixed (card_seen e)) c.deref-then-is_variable.ensures (c.is_fixed.ensures c.if-is_fixed.true))
    (subst (λ e. IfSome c.value_at_hand.result (λ v. v ≡ attr_of_any (scene_seen c.args.scene.now) c.in-EqAttr.other (card_value (scene_seen c.args.scene.now) c.args.scope.now (card_seen e)))) c.deref-then-is_fixed.ensures c.value_at_hand.ensures)
    c.equal_to.ensures

pub returns-then-is_variable-2 : goal.returns-then-is_variable-2
returns-then-is_variable-2 c =
    wanted_named (scene_seen c.args.scene.now) c.args.place (test_seen c.args.test.now) (card_seen c.in-Is.card.value) c.in-Is.name c.in-Is.value c.equal_to-then-is_variable-2.result
    (ap test_seen c.in-Is.is)
    (sym (ap card_seen c.deref-in-Is.ensures) ∙ c.is_variable-in-Is.ensures c.if-is_variable-2.true)
    c.equal_to-then-is_variable-2.ensures
