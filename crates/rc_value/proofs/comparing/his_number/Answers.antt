use Rattle.std.proofs.Common.{ap, ◌∙◌}
use Rattle.rc_sheet_spec.specs.Sheet.{who_var}
use Rattle.rc_ast.specs.Names.{num_seen, who_seen}
use Rattle.rc_value.proofs.ComparingLemmas.{number_own}
use Rattle.rc_value.proofs.comparing.his_number.Goals as goal

pub returns-in-Var : goal.returns-in-Var
returns-in-Var c = number_own c.args.place (num_seen c.args.num.now) (ap who_seen c.in-Var.is ∙ ap who_var c.if-var-place.true)
