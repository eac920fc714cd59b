use Rattle.rc_sheet.proofs.Shallow.{sheet_shallow, printable_shallow}
use Rattle.rc_sheet.proofs.laws.limits.sheet_is_shallow.Goals as goal

pub returns-clause-of_form : goal.returns-clause-of_form
returns-clause-of_form c naming tree sheet is shallow = sheet_shallow naming tree sheet is shallow

pub returns-clause-printable : goal.returns-clause-printable
returns-clause-printable c naming tree sheet is fits = printable_shallow naming tree sheet is fits
