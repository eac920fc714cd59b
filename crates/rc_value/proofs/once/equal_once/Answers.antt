use Rattle.std.proofs.Common.{ap, sym, subst, ◌∙◌}
use Rattle.std.specs.Prelude.{IfSome}
use Rattle.rc_sheet_spec.specs.Sheet.{card_var}
use Rattle.rc_ast.specs.Expressions.{card_seen, test_seen}
use Rattle.rc_value.specs.Once.{IsCardOnce}
use Rattle.rc_value.specs.Scene.{scene_seen}
use Rattle.rc_value.specs.Sought.{IsSought}
use Rattle.rc_value.proofs.OnceLemmas.{value_once, value_turned, face_once, face_turned}
use Rattle.rc_value.proofs.WantedLemmas.{value_is}
use Rattle.rc_value.proofs.once.equal_once.Goals as goal

pub returns-then-is_variable : goal.returns-then-is_variable
returns-then-is_variable c =
    let s = scene_seen c.args.scene.now in
    let vars = c.args.scope.now in
    let t = test_seen c.args.test.now in
    let once = subst (λ e. IfSome c.card_once.result (IsCardOnce s vars (card_seen e))) c.deref-then-is_variable.ensures
    c.card_once.ensures in
    subst (λ r. IfSome r (IsSought s vars t)) (sym c.value_of_once.ensures) (
    value_once s vars t (card_seen c.in-EqAttr.a.value) (card_seen c.in-EqAttr.b.value) c.in-EqAttr.name
    c.in-EqAttr.other c.card_once.result
    (ap test_seen c.in-EqAttr.is)
    (sym (ap card_seen c.deref.ensures) ∙ c.is_variable.ensures c.if-is_variable.true ∙ ap card_var c.len.ensures) once
    )

pub returns-then-is_variable-2 : goal.returns-then-is_variable-2
returns-then-is_variable-2 c =
    let s = scene_seen c.args.scene.now in
    let vars = c.args.scope.now in
    let t = test_seen c.args.test.now in
    let once = subst (λ e. IfSome c.card_once-then-is_variable-2.result (IsCardOnce s vars (card_seen e)))
    c.deref-then-is_variable-2.ensures c.card_once-then-is_variable-2.ensures in
    subst (λ r. IfSome r (IsSought s vars t)) (sym c.value_of_once-then-is_variable-2.ensures) (
    value_turned s vars t (card_seen c.in-EqAttr.a.value) (card_seen c.in-EqAttr.b.value) c.in-EqAttr.name
    c.in-EqAttr.other c.card_once-then-is_variable-2.result
    (ap test_seen c.in-EqAttr.is)
    (sym (ap card_seen c.deref-in-EqAttr.ensures) ∙ c.is_variable-in-EqAttr.ensures c.if-is_variable-2.true
    ∙ ap card_var c.len-in-EqAttr.ensures) once
    )

pub returns-then-is_variable-3 : goal.returns-then-is_variable-3
returns-then-is_variable-3 c =
    let s = scene_seen c.args.scene.now in
    let vars = c.args.scope.now in
    let t = test_seen c.args.test.now in
    let once = subst (λ e. IfSome c.card_once-then-is_variable-3.result (IsCardOnce s vars (card_seen e)))
    c.deref-then-is_variable-3.ensures c.card_once-then-is_variable-3.ensures in
    subst (λ r. IfSome r (IsSought s vars t)) (sym c.face_of_once.ensures) (
    face_once s vars t (card_seen c.in-EqCard.a.value) (card_seen c.in-EqCard.b.value)
    c.card_once-then-is_variable-3.result
    (ap test_seen c.in-EqCard.is)
    (sym (ap card_seen c.deref-in-EqCard.ensures) ∙ c.is_variable-in-EqCard.ensures c.if-is_variable-3.true
    ∙ ap card_var c.len-in-EqCard.ensures) once
    )

pub returns-then-is_variable-4 : goal.returns-then-is_variable-4
returns-then-is_variable-4 c =
    let s = scene_seen c.args.scene.now in
    let vars = c.args.scope.now in
    let t = test_seen c.args.test.now in
    let once = subst (λ e. IfSome c.card_once-then-is_variable-4.result (IsCardOnce s vars (card_seen e)))
    c.deref-then-is_variable-4.ensures c.card_once-then-is_variable-4.ensures in
    subst (λ r. IfSome r (IsSought s vars t)) (sym c.face_of_once-then-is_variable-4.ensures) (
    face_turned s vars t (card_seen c.in-EqCard.a.value) (card_seen c.in-EqCard.b.value)
    c.card_once-then-is_variable-4.result
    (ap test_seen c.in-EqCard.is)
    (sym (ap card_seen c.deref-in-EqCard-2.ensures) ∙ c.is_variable-in-EqCard-2.ensures c.if-is_variable-4.true
    ∙ ap card_var c.len-in-EqCard-2.ensures) once
    )

pub returns-then-is_variable-5 : goal.returns-then-is_variable-5
returns-then-is_variable-5 c =
    subst (IsSought (scene_seen c.args.scene.now) c.args.scope.now (test_seen c.args.test.now)) (sym c.same_value.ensures) (
    value_is (scene_seen c.args.scene.now) c.args.scope.now (test_seen c.args.test.now) (card_seen c.in-Is.card.value)
    c.in-Is.name c.in-Is.value (ap test_seen c.in-Is.is)
    (sym (ap card_seen c.deref-in-Is.ensures) ∙ c.is_variable-in-Is.ensures c.if-is_variable-5.true
    ∙ ap card_var c.len-in-Is.ensures)
    )
