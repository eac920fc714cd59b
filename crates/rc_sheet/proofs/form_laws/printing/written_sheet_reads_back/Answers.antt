use Rattle.rc_sheet.proofs.PrintedAgain.{line_spelled, line_reads_back}
use Rattle.rc_sheet.proofs.form_laws.printing.written_sheet_reads_back.Goals as goal

pub returns-clause-spelled : goal.returns-clause-spelled
returns-clause-spelled c = line_spelled

pub returns-clause-only : goal.returns-clause-only
returns-clause-only c = λ sheet forms rest formed. line_reads_back sheet formed forms rest
