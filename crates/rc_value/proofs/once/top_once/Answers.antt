use Rattle.std.proofs.Common.{arith, ap, subst, ◌∙◌}
use Rattle.rc_ast.specs.Names.{loc_seen}
use Rattle.rc_ast.specs.Expressions.{coll_seen}
use Rattle.rc_play_spec.specs.Ends.{last_of}
use Rattle.rc_value.specs.Once.{IsOuterOwner}
use Rattle.rc_value.specs.Scene.{scene_seen}
use Rattle.rc_value.proofs.OnceLemmas.{loc_once, group_once}
use Rattle.rc_value.proofs.once.top_once.Goals as goal

pub returns-then-is_outer_owner : goal.returns-then-is_outer_owner
returns-then-is_outer_owner c =
    loc_once (scene_seen c.args.scene.now) c.args.scope.now (coll_seen c.args.expr.now) (loc_seen c.in-Loc.loc)
    c.top_card.result (ap coll_seen c.in-Loc.is)
    (subst (λ n. IsOuterOwner n (loc_seen c.in-Loc.loc).who) c.len.ensures
    (c.is_outer_owner.ensures c.if-is_outer_owner.true))
    c.top_card.ensures

pub returns-then-var-len : goal.returns-then-var-len
returns-then-var-len c =
    group_once (scene_seen c.args.scene.now) c.args.scope.now (coll_seen c.args.expr.now) c.in-Var.var c.last.result
    (ap coll_seen c.in-Var.is)
    (omega arith) (c.last.ensures ∙ ap last_of c.group.ensures)
