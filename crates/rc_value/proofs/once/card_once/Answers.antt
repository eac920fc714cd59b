use Rattle.std.proofs.Common.{arith, ap, subst}
use Rattle.std.specs.Prelude.{IfSome}
use Rattle.rc_ast.specs.Expressions.{card_seen, coll_seen}
use Rattle.rc_value.specs.Once.{IsTopOnce}
use Rattle.rc_value.specs.Scene.{scene_seen}
use Rattle.rc_value.proofs.OnceLemmas.{var_once, top_is}
use Rattle.rc_value.proofs.once.card_once.Goals as goal

pub returns-then-var-len : goal.returns-then-var-len
returns-then-var-len c =
    var_once (scene_seen c.args.scene.now) c.args.scope.now (card_seen c.args.expr.now) c.in-Var.var c.card.result
    (ap card_seen c.in-Var.is)
    (omega arith) c.card.ensures

pub returns-in-Top : goal.returns-in-Top
returns-in-Top c =
    top_is (scene_seen c.args.scene.now) c.args.scope.now (card_seen c.args.expr.now) (coll_seen c.in-Top.cards.value)
    c.top_once.result (ap card_seen c.in-Top.is)
    (subst (λ e. IfSome c.top_once.result (IsTopOnce (scene_seen c.args.scene.now) c.args.scope.now (coll_seen e)))
    c.deref.ensures c.top_once.ensures)
