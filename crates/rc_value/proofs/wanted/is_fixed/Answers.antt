use Rattle.std.proofs.Common.{ap, subst}
use Rattle.rc_ast.specs.Expressions.{card_seen, coll_seen}
use Rattle.rc_value.specs.Wanted.{IsFixedCollection}
use Rattle.rc_value.proofs.WantedLemmas.{fixed_top}
use Rattle.rc_value.proofs.wanted.is_fixed.Goals as goal

pub returns-in-Top : goal.returns-in-Top
returns-in-Top c = λ yes.
    fixed_top (coll_seen c.in-Top.cards.value) (card_seen c.args.expr.now) (ap card_seen c.in-Top.is)
    (subst (λ e. IsFixedCollection (coll_seen e)) c.deref.ensures (c.is_fixed_collection.ensures yes))
