use Rattle.rc_sheet.proofs.Sound.Sheet.{no_second_fault}
use Rattle.rc_sheet.proofs.form_laws.faults.a_sheet_has_no_second_fault.Goals as goal

pub returns : goal.returns
returns c = λ tree sheet stands well shaped. no_second_fault sheet tree stands well shaped
