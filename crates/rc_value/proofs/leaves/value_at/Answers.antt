use Rattle.std.proofs.Common.{◌∙◌}
use Rattle.rc_value.proofs.RowLemmas.{row_value}
use Rattle.rc_value.proofs.leaves.value_at.Goals as goal

pub returns-in-Some : goal.returns-in-Some
returns-in-Some c = c.value_in.ensures ∙ row_value c.args.scene.now c.args.name c.args.id c.in-Some.row.now c.in-Some.ensures
