use Rattle.rc_sheet.proofs.One.Sheet.{one_well_formed}
use Rattle.rc_sheet.proofs.Sound.Sheet.{no_fault}
use Rattle.rc_sheet.proofs.form_laws.one_sheet.a_form_has_one_sheet.Goals as goal

pub returns : goal.returns
returns c =
    λ tree sheet other stands well stands' well'.
    one_well_formed tree sheet other (no_fault sheet tree stands well) stands well stands' well'
