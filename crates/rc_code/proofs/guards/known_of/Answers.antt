use Rattle.std.proofs.Common.{ap, sym, ◌∙◌}
use Rattle.std.specs.Prelude.{is_some}
use Rattle.rc_ast.specs.Expressions.{test_seen}
use Rattle.rc_code.proofs.FixedLemmas.{none_fixed}
use Rattle.rc_code.proofs.guards.known_of.Goals as goal

pub returns-in-None-clause-found : goal.returns-in-None-clause-found
returns-in-None-clause-found c = none_fixed (test_seen c.args.test.now) (ap is_some (sym c.in-None.is) ∙ c.comparison_of.ensures.found)
