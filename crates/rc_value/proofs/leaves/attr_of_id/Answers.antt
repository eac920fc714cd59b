use Rattle.std.proofs.Common.{sym, ◌∙◌}
use Rattle.rc_value.proofs.RowLemmas.{attr_by_id, attr_of_none}
use Rattle.rc_value.proofs.leaves.attr_of_id.Goals as goal

pub returns-in-Some : goal.returns-in-Some
returns-in-Some c = λ card e. attr_by_id c.args.scene.now c.args.name c.in-Some.id c.value_at.result card (sym c.in-Some.is ∙ e) c.value_at.ensures

pub returns-in-None : goal.returns-in-None
returns-in-None c = λ card e. attr_of_none c.args.scene.now c.args.name card (sym c.in-None.is ∙ e)
