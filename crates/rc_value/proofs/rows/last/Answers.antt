use Rattle.std.proofs.Common.{◌∙◌}
use Rattle.rc_value.proofs.RowLemmas.{last_found}
use Rattle.rc_value.proofs.rows.last.Goals as goal

pub returns : goal.returns
returns c = c.copied.ensures ∙ c.last.ensures.value ∙ last_found c.args.ids.now
