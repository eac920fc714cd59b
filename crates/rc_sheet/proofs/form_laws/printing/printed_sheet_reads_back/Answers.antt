use Rattle.rc_sheet.proofs.PrintedAgain.{spells_again, reads_back}
use Rattle.rc_sheet.proofs.form_laws.printing.printed_sheet_reads_back.Goals as goal

pub returns-clause-again : goal.returns-clause-again
returns-clause-again c = spells_again

pub returns-clause-only : goal.returns-clause-only
returns-clause-only c = λ sheet forms rest formed. reads_back sheet formed forms rest
