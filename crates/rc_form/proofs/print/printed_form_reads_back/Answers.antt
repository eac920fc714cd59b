use Rattle.rc_form.proofs.PrintedIsSpelled.{SpellsAgain-printed, SameForm-printed}
use Rattle.rc_form.proofs.print.printed_form_reads_back.Goals as goal

pub returns-clause-again : goal.returns-clause-again
returns-clause-again c = SpellsAgain-printed

pub returns-clause-same : goal.returns-clause-same
returns-clause-same c = SameForm-printed
