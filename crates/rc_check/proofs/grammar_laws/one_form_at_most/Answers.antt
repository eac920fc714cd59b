use Rattle.rc_check.proofs.OneForm.{one_told, one_plain}
use Rattle.rc_check.proofs.grammar_laws.one_form_at_most.Goals as goal

pub returns-clause-told : goal.returns-clause-told
returns-clause-told c = one_told

pub returns-clause-plain : goal.returns-clause-plain
returns-clause-plain c = one_plain
