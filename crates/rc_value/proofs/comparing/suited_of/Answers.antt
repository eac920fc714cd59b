use Rattle.std.proofs.Common.{ap, subst}
use Rattle.std.specs.Prelude.{IfSome}
use Rattle.rc_play_spec.specs.Value.{test_value}
use Rattle.rc_ast.specs.Expressions.{int_seen, test_seen}
use Rattle.rc_code.specs.declared.atoms.Comparator.TheVariants.{Equal, Less, AtMost, More, AtLeast}
use Rattle.rc_value.specs.Comparing.{ArePaired}
use Rattle.rc_value.specs.Scene.{scene_seen}
use Rattle.rc_value.proofs.ComparingLemmas.{suited_is}
use Rattle.rc_value.proofs.comparing.suited_of.Goals as goal

pub returns-in-EqInt : goal.returns-in-EqInt
returns-in-EqInt c =
    suited_is (scene_seen c.args.scene.now) c.args.scope.now (test_seen c.args.test.now) (int_seen c.in-EqInt.a.value) (int_seen c.in-EqInt.b.value) Equal c.comparison_of.result
    (λ vars. ap (test_value (scene_seen c.args.scene.now) vars) (ap test_seen c.in-EqInt.is))
    (subst (λ e. IfSome c.comparison_of.result (ArePaired (scene_seen c.args.scene.now) c.args.scope.now (int_seen c.in-EqInt.a.value) Equal (int_seen e))) c.deref-in-EqInt.ensures
    (subst (λ e. IfSome c.comparison_of.result (ArePaired (scene_seen c.args.scene.now) c.args.scope.now (int_seen e) Equal (int_seen c.deref-in-EqInt.result.now))) c.deref.ensures c.comparison_of.ensures))

pub returns-in-Less : goal.returns-in-Less
returns-in-Less c =
    suited_is (scene_seen c.args.scene.now) c.args.scope.now (test_seen c.args.test.now) (int_seen c.in-Less.a.value) (int_seen c.in-Less.b.value) Less c.comparison_of-in-Less.result
    (λ vars. ap (test_value (scene_seen c.args.scene.now) vars) (ap test_seen c.in-Less.is))
    (subst (λ e. IfSome c.comparison_of-in-Less.result (ArePaired (scene_seen c.args.scene.now) c.args.scope.now (int_seen c.in-Less.a.value) Less (int_seen e))) c.deref-in-Less-2.ensures
    (subst (λ e. IfSome c.comparison_of-in-Less.result (ArePaired (scene_seen c.args.scene.now) c.args.scope.now (int_seen e) Less (int_seen c.deref-in-Less-2.result.now))) c.deref-in-Less.ensures c.comparison_of-in-Less.ensures))

pub returns-in-LessEq : goal.returns-in-LessEq
returns-in-LessEq c =
    suited_is (scene_seen c.args.scene.now) c.args.scope.now (test_seen c.args.test.now) (int_seen c.in-LessEq.a.value) (int_seen c.in-LessEq.b.value) AtMost c.comparison_of-in-LessEq.result
    (λ vars. ap (test_value (scene_seen c.args.scene.now) vars) (ap test_seen c.in-LessEq.is))
    (subst (λ e. IfSome c.comparison_of-in-LessEq.result (ArePaired (scene_seen c.args.scene.now) c.args.scope.now (int_seen c.in-LessEq.a.value) AtMost (int_seen e))) c.deref-in-LessEq-2.ensures
    (subst (λ e. IfSome c.comparison_of-in-LessEq.result (ArePaired (scene_seen c.args.scene.now) c.args.scope.now (int_seen e) AtMost (int_seen c.deref-in-LessEq-2.result.now))) c.deref-in-LessEq.ensures c.comparison_of-in-LessEq.ensures))

pub returns-in-More : goal.returns-in-More
returns-in-More c =
    suited_is (scene_seen c.args.scene.now) c.args.scope.now (test_seen c.args.test.now) (int_seen c.in-More.a.value) (int_seen c.in-More.b.value) More c.comparison_of-in-More.result
    (λ vars. ap (test_value (scene_seen c.args.scene.now) vars) (ap test_seen c.in-More.is))
    (subst (λ e. IfSome c.comparison_of-in-More.result (ArePaired (scene_seen c.args.scene.now) c.args.scope.now (int_seen c.in-More.a.value) More (int_seen e))) c.deref-in-More-2.ensures
    (subst (λ e. IfSome c.comparison_of-in-More.result (ArePaired (scene_seen c.args.scene.now) c.args.scope.now (int_seen e) More (int_seen c.deref-in-More-2.result.now))) c.deref-in-More.ensures c.comparison_of-in-More.ensures))

pub returns-in-MoreEq : goal.returns-in-MoreEq
returns-in-MoreEq c =
    suited_is (scene_seen c.args.scene.now) c.args.scope.now (test_seen c.args.test.now) (int_seen c.in-MoreEq.a.value) (int_seen c.in-MoreEq.b.value) AtLeast c.comparison_of-in-MoreEq.result
    (λ vars. ap (test_value (scene_seen c.args.scene.now) vars) (ap test_seen c.in-MoreEq.is))
    (subst (λ e. IfSome c.comparison_of-in-MoreEq.result (ArePaired (scene_seen c.args.scene.now) c.args.scope.now (int_seen c.in-MoreEq.a.value) AtLeast (int_seen e))) c.deref-in-MoreEq-2.ensures
    (subst (λ e. IfSome c.comparison_of-in-MoreEq.result (ArePaired (scene_seen c.args.scene.now) c.args.scope.now (int_seen e) AtLeast (int_seen c.deref-in-MoreEq-2.result.now))) c.deref-in-MoreEq.ensures c.comparison_of-in-MoreEq.ensures))
