-- The first fault of a form that isn't accepted as a sheet. Which forms are, Accepted.antt of rc_sheet says.
use Rattle.std.specs.Prelude.{Some, ◌≡◌, ℕ, ◌⊎◌}
use Rattle.rc_base.specs.Tree.{Tree}
use Rattle.rc_check.specs.declared.fault.SheetFault.{SheetFault}
use Rattle.rc_check.specs.declared.fail.SheetFail.{SheetFail}
use Rattle.rc_check.specs.declared.fail.SheetFail.TheVariants as found
use Rattle.rc_check.specs.FirstFault.{IsFirstFault}
use Rattle.rc_check.specs.SecondFaults.{sheet_fault}
use Rattle.rc_sheet_spec.specs.Sheet.{Sheet}
use Rattle.rc_sheet_spec.specs.Sight.{IsUnseen}
use Rattle.rc_sheet.specs.Accepted.{IsSheetOf}
use Rattle.rc_house.specs.declared.accepting.SourceFail.{SourceFail}
use Rattle.rc_house.specs.declared.accepting.SourceFail.TheVariants as fails
use Rattle.rc_house.specs.declared.status.SourceKind.{SourceKind}
use Rattle.rc_house.specs.declared.status.SourceKind.TheVariants.{Unseen}
use Rattle.rc_house.specs.Status.{sheet_kind}

-- The first fault of the parts of a form that is to be a sheet. It is one of the first round, or of the second where
-- the first round finds none, and no fault of its round comes before it: none at a smaller offset, and at its own none
-- of an earlier kind.
abbrev pub HasPartFault : Tree → SourceKind → ℕ → Type 0
HasPartFault form kind at =
    (found : SheetFault) × (sheet_fault form ≡ Some found) × IsFirstFault form found × (kind ≡ sheet_kind found.kind)
    × (at ≡ found.at)

-- the first location that stands in a guard or a domain and is out of sight there
abbrev pub HasSightFault : Tree → SourceKind → ℕ → Type 0
HasSightFault form kind at = (kind ≡ Unseen) × (sheet : Sheet) × IsSheetOf form sheet × IsUnseen sheet at

-- the first fault of a form that is to be a sheet: of its parts, or else of sight
abbrev pub HasFirstFault : Tree → SourceKind → ℕ → Type 0
HasFirstFault form kind at = HasPartFault form kind at ⊎ HasSightFault form kind at

-- why it isn't accepted, where its parts fail so
abbrev pub source_fail : SheetFail → SourceFail
source_fail found.Memory = fails.Memory
source_fail (found.Fault fault) = fails.Fault (sheet_kind fault.kind) fault.at

-- what holds of a fault; nothing is said where memory ran out
abbrev pub IfSourceFault : SourceFail → (SourceKind → ℕ → Type 0) → Type 0
IfSourceFault fails.Memory P = Unit {0}
IfSourceFault (fails.Fault kind at) P = P kind at
