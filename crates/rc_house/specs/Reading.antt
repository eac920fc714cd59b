-- How a source is read.
use Rattle.std.specs.Prelude.{◌≡◌, ℕ, List, [], ◌∷◌}
use Rattle.rc_base.specs.Tree.{Tree}
use Rattle.rc_base.specs.Spelled.{Spelled}
use Rattle.rc_form.specs.declared.fault.FormKind.{FormKind}
use Rattle.rc_form.specs.FormFault.{IsFormFault}
use Rattle.rc_sheet_spec.specs.Sheet.{Sheet}
use Rattle.rc_house.specs.declared.status.SourceKind.{SourceKind}
use Rattle.rc_house.specs.declared.status.SourceKind.TheVariants.{Shape}
use Rattle.rc_house.specs.Status.{source_kind}
use Rattle.rc_sheet.specs.Accepted.{IsAccepted}
use Rattle.rc_house.specs.Accepted.{HasFirstFault}

-- The source is read: these are the wanted lists that it spells, of which the first is to be the sheet, and the rest
-- begins here.
pub record Reading (source : List ℕ) (want : ℕ) : Type 0 where
  pub lists : List Tree
  pub rest : ℕ
  pub spelled : Spelled source want lists rest

-- The source can't be read: the first fault of its forms.
abbrev pub HasFormFault : List ℕ → ℕ → SourceKind → ℕ → Type 0
HasFormFault source want kind at = (found : FormKind) × IsFormFault source want found at × (kind ≡ source_kind found)

-- The first fault of the sheet, where these are the lists and the rest that were read: the sheet is missing, or else it
-- is the first fault of the first list.
abbrev pub HasSheetFault : List Tree → ℕ → SourceKind → ℕ → Type 0
HasSheetFault [] rest kind at = (kind ≡ Shape) × (at ≡ rest)
HasSheetFault (form ∷ others) rest kind at = HasFirstFault form kind at

-- The first list is accepted as a sheet, and this holds of the sheet and of the lists behind it.
abbrev pub IsAcceptedWith : (Sheet → List Tree → Type 0) → List Tree → Type 0
IsAcceptedWith P [] = ⊥
IsAcceptedWith P (form ∷ others) = (sheet : Sheet) × IsAccepted form sheet × P sheet others
