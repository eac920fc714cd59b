use Rattle.std.proofs.Common.{ap}
use Rattle.rc_check.specs.Faults.{first}
use Rattle.rc_check.specs.SecondFaults.{second_faults, or_fault}
use Rattle.rc_sheet.proofs.Shaped.Sheet.{sheet_shaped}
use Rattle.rc_sheet.proofs.form_laws.faults.a_sheet_has_its_shape.Goals as goal

pub returns-clause-shape : goal.returns-clause-shape
returns-clause-shape c = λ tree sheet stands well. sheet_shaped sheet tree stands well

pub returns-clause-second : goal.returns-clause-second
returns-clause-second c =
    λ tree sheet stands well. ap (λ l. or_fault (first l) (first (second_faults tree))) (sheet_shaped sheet tree stands well)
