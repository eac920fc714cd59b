use Rattle.std.proofs.Common.{ap, subst}
use Rattle.rc_ast.specs.Names.{num_seen}
use Rattle.rc_ast.specs.Expressions.{coll_seen, int_seen}
use Rattle.rc_value.specs.Wanted.{IsFixedCollection}
use Rattle.rc_menu.proofs.KnownLemmas.{fixed_literal, fixed_num, fixed_size}
use Rattle.rc_menu.proofs.known.is_fixed_number.Goals as goal

pub returns-in-Lit : goal.returns-in-Lit
returns-in-Lit c = λ so. fixed_literal c.in-Lit.field-0 (int_seen c.args.expr.now) (ap int_seen c.in-Lit.is)

pub returns-in-Num : goal.returns-in-Num
returns-in-Num c = λ so. fixed_num (num_seen c.in-Num.num) (int_seen c.args.expr.now) (ap int_seen c.in-Num.is) (c.is_fixed_owner.ensures so)

pub returns-in-Size : goal.returns-in-Size
returns-in-Size c = λ so.
    fixed_size (coll_seen c.in-Size.cards.value) (int_seen c.args.expr.now) (ap int_seen c.in-Size.is)
    (subst (λ e. IsFixedCollection (coll_seen e)) c.deref.ensures (c.is_fixed_collection.ensures so))
