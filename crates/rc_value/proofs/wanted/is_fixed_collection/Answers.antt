use Rattle.std.proofs.Common.{ap}
use Rattle.rc_ast.specs.Names.{loc_seen}
use Rattle.rc_ast.specs.Expressions.{coll_seen}
use Rattle.rc_value.proofs.WantedLemmas.{fixed_cards}
use Rattle.rc_value.proofs.wanted.is_fixed_collection.Goals as goal

pub returns-in-Loc : goal.returns-in-Loc
returns-in-Loc c = λ yes. fixed_cards (loc_seen c.in-Loc.loc) (coll_seen c.args.expr.now) (ap coll_seen c.in-Loc.is) (c.is_fixed_owner.ensures yes)
