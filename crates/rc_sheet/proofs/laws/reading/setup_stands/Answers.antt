use Rattle.std.proofs.Common.{refl}
use Rattle.rc_sheet.specs.ReadSetup.{setup_at, setup_in}
use Rattle.rc_sheet.proofs.Means.{means_so}
use Rattle.rc_sheet.proofs.ReadOff.Setup.{setup_means}
use Rattle.rc_sheet.proofs.laws.reading.setup_stands.Goals as goal

pub returns : goal.returns
returns c = λ naming lines sheet is. means_so (setup_at naming lines) (setup_in sheet) (setup_means naming lines) is sheet refl
