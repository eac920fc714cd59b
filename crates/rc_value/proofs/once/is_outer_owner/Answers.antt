use Rattle.std.proofs.Common.{arith, ap}
use Rattle.std.proofs.lemmas.Bool.Decides.{nat_tests}
use Rattle.rc_ast.specs.Names.{who_seen}
use Rattle.rc_value.proofs.OnceLemmas.{outer_player, outer_team}
use Rattle.rc_value.proofs.once.is_outer_owner.Goals as goal

pub returns-in-TeamOfVar : goal.returns-in-TeamOfVar
returns-in-TeamOfVar c = λ yes. outer_team (who_seen c.args.who) c.in-TeamOfVar.var c.args.count
    (ap who_seen c.in-TeamOfVar.is) (grind (arith, nat_tests, yes))

pub returns-in-Var : goal.returns-in-Var
returns-in-Var c = λ yes. outer_player (who_seen c.args.who) c.in-Var.var c.args.count (ap who_seen c.in-Var.is)
    (grind (arith, nat_tests, yes))
