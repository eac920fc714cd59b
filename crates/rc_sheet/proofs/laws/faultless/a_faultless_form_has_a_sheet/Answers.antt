use Rattle.rc_sheet.proofs.Accepted.{has_sheet}
use Rattle.rc_sheet.proofs.laws.faultless.a_faultless_form_has_a_sheet.Goals as goal

pub returns : goal.returns
returns c = has_sheet
