use Rattle.std.proofs.Common.{false, true, ap, subst}
use Rattle.std.specs.Prelude.{IfSome}
use Rattle.rc_code.specs.declared.atoms.Comparator.TheVariants.{Equal, Less, AtMost, More, AtLeast}
use Rattle.rc_play_spec.specs.Value.{test_value}
use Rattle.rc_ast.specs.Expressions.{int_seen, domain_seen, test_seen}
use Rattle.rc_menu.specs.Known.{IsKnownOver, IsKnownPair}
use Rattle.rc_value.specs.Scene.{scene_seen}
use Rattle.rc_menu.proofs.KnownLemmas.{pair_at, over_at}
use Rattle.rc_menu.proofs.known.plain_at.Goals as goal

pub returns-in-EqInt : goal.returns-in-EqInt
returns-in-EqInt c =
    pair_at (scene_seen c.args.scene.now) c.args.count Equal (int_seen c.in-EqInt.a.value) (int_seen c.in-EqInt.b.value) (test_seen c.args.test.now) c.compared_known.result
    (λ vars. ap (test_value (scene_seen c.args.scene.now) vars) (ap test_seen c.in-EqInt.is))
    (subst (λ e. IfSome c.compared_known.result (IsKnownPair (scene_seen c.args.scene.now) Equal (int_seen c.in-EqInt.a.value) (int_seen e))) c.deref-in-EqInt.ensures
    (subst (λ e. IfSome c.compared_known.result (IsKnownPair (scene_seen c.args.scene.now) Equal (int_seen e) (int_seen c.deref-in-EqInt.result.now))) c.deref.ensures c.compared_known.ensures))

pub returns-in-Less : goal.returns-in-Less
returns-in-Less c =
    pair_at (scene_seen c.args.scene.now) c.args.count Less (int_seen c.in-Less.a.value) (int_seen c.in-Less.b.value) (test_seen c.args.test.now) c.compared_known-in-Less.result
    (λ vars. ap (test_value (scene_seen c.args.scene.now) vars) (ap test_seen c.in-Less.is))
    (subst (λ e. IfSome c.compared_known-in-Less.result (IsKnownPair (scene_seen c.args.scene.now) Less (int_seen c.in-Less.a.value) (int_seen e))) c.deref-in-Less-2.ensures
    (subst (λ e. IfSome c.compared_known-in-Less.result (IsKnownPair (scene_seen c.args.scene.now) Less (int_seen e) (int_seen c.deref-in-Less-2.result.now))) c.deref-in-Less.ensures c.compared_known-in-Less.ensures))

pub returns-in-LessEq : goal.returns-in-LessEq
returns-in-LessEq c =
    pair_at (scene_seen c.args.scene.now) c.args.count AtMost (int_seen c.in-LessEq.a.value) (int_seen c.in-LessEq.b.value) (test_seen c.args.test.now) c.compared_known-in-LessEq.result
    (λ vars. ap (test_value (scene_seen c.args.scene.now) vars) (ap test_seen c.in-LessEq.is))
    (subst (λ e. IfSome c.compared_known-in-LessEq.result (IsKnownPair (scene_seen c.args.scene.now) AtMost (int_seen c.in-LessEq.a.value) (int_seen e))) c.deref-in-LessEq-2.ensures
    (subst (λ e. IfSome c.compared_known-in-LessEq.result (IsKnownPair (scene_seen c.args.scene.now) AtMost (int_seen e) (int_seen c.deref-in-LessEq-2.result.now))) c.deref-in-LessEq.ensures c.compared_known-in-LessEq.ensures))

pub returns-in-More : goal.returns-in-More
returns-in-More c =
    pair_at (scene_seen c.args.scene.now) c.args.count More (int_seen c.in-More.a.value) (int_seen c.in-More.b.value) (test_seen c.args.test.now) c.compared_known-in-More.result
    (λ vars. ap (test_value (scene_seen c.args.scene.now) vars) (ap test_seen c.in-More.is))
    (subst (λ e. IfSome c.compared_known-in-More.result (IsKnownPair (scene_seen c.args.scene.now) More (int_seen c.in-More.a.value) (int_seen e))) c.deref-in-More-2.ensures
    (subst (λ e. IfSome c.compared_known-in-More.result (IsKnownPair (scene_seen c.args.scene.now) More (int_seen e) (int_seen c.deref-in-More-2.result.now))) c.deref-in-More.ensures c.compared_known-in-More.ensures))

pub returns-in-MoreEq : goal.returns-in-MoreEq
returns-in-MoreEq c =
    pair_at (scene_seen c.args.scene.now) c.args.count AtLeast (int_seen c.in-MoreEq.a.value) (int_seen c.in-MoreEq.b.value) (test_seen c.args.test.now) c.compared_known-in-MoreEq.result
    (λ vars. ap (test_value (scene_seen c.args.scene.now) vars) (ap test_seen c.in-MoreEq.is))
    (subst (λ e. IfSome c.compared_known-in-MoreEq.result (IsKnownPair (scene_seen c.args.scene.now) AtLeast (int_seen c.in-MoreEq.a.value) (int_seen e))) c.deref-in-MoreEq-2.ensures
    (subst (λ e. IfSome c.compared_known-in-MoreEq.result (IsKnownPair (scene_seen c.args.scene.now) AtLeast (int_seen e) (int_seen c.deref-in-MoreEq-2.result.now))) c.deref-in-MoreEq.ensures c.compared_known-in-MoreEq.ensures))

pub returns-in-All : goal.returns-in-All
returns-in-All c =
    over_at (scene_seen c.args.scene.now) c.args.count c.in-All.field-1 false (domain_seen c.in-All.domain) (test_seen c.in-All.inner.value) (test_seen c.args.test.now) c.known_over.result
    (ap test_seen c.in-All.is)
    (subst (λ e. IfSome c.known_over.result (IsKnownOver (scene_seen c.args.scene.now) c.args.count false (domain_seen c.in-All.domain) (test_seen e))) c.deref-in-All.ensures c.known_over.ensures)

pub returns-in-Any : goal.returns-in-Any
returns-in-Any c =
    over_at (scene_seen c.args.scene.now) c.args.count c.in-Any.field-1 true (domain_seen c.in-Any.domain) (test_seen c.in-Any.inner.value) (test_seen c.args.test.now) c.known_over-in-Any.result
    (ap test_seen c.in-Any.is)
    (subst (λ e. IfSome c.known_over-in-Any.result (IsKnownOver (scene_seen c.args.scene.now) c.args.count true (domain_seen c.in-Any.domain) (test_seen e))) c.deref-in-Any.ensures c.known_over-in-Any.ensures)
