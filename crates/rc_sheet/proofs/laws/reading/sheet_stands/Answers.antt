use Rattle.rc_sheet.specs.ReadSheet.{sheet_at}
use Rattle.rc_sheet.proofs.Means.{means_so}
use Rattle.rc_sheet.proofs.ReadOff.Sheet.{sheet_means}
use Rattle.rc_sheet.proofs.laws.reading.sheet_stands.Goals as goal

pub returns : goal.returns
returns c = λ naming tree sheet is. means_so (sheet_at naming tree) sheet (sheet_means naming tree) is
