use Rattle.std.proofs.Common.{◌≡◌, ◌++◌, ◌∷◌, [], false, cond, length, ap, sym, ◌∙◌}
use Rattle.rc_play_spec.specs.Menu.{spots_of}
use Rattle.rc_play_spec.specs.Value.{player_bound, test_value}
use Rattle.rc_ast.specs.Expressions.{test_seen}
use Rattle.rc_ast.specs.Items.{alt_seen}
use Rattle.rc_flow.specs.Reads.{reads_test}
use Rattle.rc_flow.proofs.Unread.{unread_test}
use Rattle.rc_value.specs.Scene.{scene_seen}
use Rattle.rc_menu.proofs.alike.offered_alike.Goals as goal

pub returns-in-Do : goal.returns-in-Do
returns-in-Do c = λ m. ap (λ a. spots_of (scene_seen c.args.scene.now) (c.args.scope.now ++ m ∷ []) (alt_seen a)) c.in-Do.is

pub returns-else-test_reads : goal.returns-else-test_reads
returns-else-test_reads c = λ m.
    let s = scene_seen c.args.scene.now in
    let t = test_seen c.in-If.guard.value in
    let unread : reads_test (length c.args.scope.now) t ≡ false =
    ap (λ k. reads_test k t) (sym c.len.ensures) ∙ ap (λ x. reads_test c.len.result (test_seen x)) (sym c.deref.ensures)
    ∙ sym c.test_reads.ensures ∙ c.if-test_reads.false in
    ap (λ a. spots_of s (c.args.scope.now ++ m ∷ []) (alt_seen a)) c.in-If.is
    ∙ ap (λ b. cond b ([] ∷ []) [])
    (unread_test s c.args.scope.now m (player_bound 0) [] t unread
    ∙ sym (c.test_of.ensures ∙ ap (λ v. test_value s v (test_seen c.deref-in-If.result.now)) c.with.ensures
    ∙ ap (λ x. test_value s (c.args.scope.now ++ player_bound 0 ∷ []) (test_seen x)) c.deref-in-If.ensures))
