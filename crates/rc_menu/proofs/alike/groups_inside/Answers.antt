use Rattle.std.proofs.Common.{ap, ◌∙◌, ◌++◌, ◌∷◌, []}
use Rattle.rc_sheet_spec.specs.Sheet.{any_alt}
use Rattle.rc_ast.specs.Expressions.{coll_seen, domain_seen}
use Rattle.rc_ast.specs.Items.{alt_seen}
use Rattle.rc_value.specs.Scene.{scene_seen}
use Rattle.rc_menu.proofs.AlikeLemmas.{known_inside}
use Rattle.rc_menu.proofs.alike.groups_inside.Goals as goal

pub returns-else-may_read : goal.returns-else-may_read
returns-else-may_read c = λ m.
    known_inside (scene_seen c.args.scene.now) c.args.scope.now (c.args.scope.now ++ m ∷ []) (alt_seen c.args.inner.now) (coll_seen c.in-Parts.cards) c.in-Parts.name c.in-Any.field-1 (alt_seen c.in-Any.within.value) c.count_groups.result
    (ap alt_seen c.in-Any.is ∙ ap (λ x. any_alt (domain_seen x) c.in-Any.field-1 (alt_seen c.in-Any.within.value)) c.in-Parts.is)
    c.count_groups.ensures.few c.count_groups.ensures.count
    (c.is_fixed_collection.ensures c.if-not-is_fixed_collection.false (scene_seen c.args.scene.now) c.args.scope.now (c.args.scope.now ++ m ∷ []))
