-- Which forms are accepted as which sheets.
use Rattle.std.specs.Prelude.{None, ◌≡◌}
use Rattle.rc_base.specs.Tree.{Tree}
use Rattle.rc_check.specs.SecondFaults.{sheet_fault}
use Rattle.rc_sheet_spec.specs.Sheet.{Sheet}
use Rattle.rc_sheet_spec.specs.Stands.{Stands}
use Rattle.rc_sheet_spec.specs.WellFormed.{IsWellFormed}
use Rattle.rc_sheet_spec.specs.Sight.{IsInSight}

-- The sheet of a form that has no fault of its parts: the well formed sheet that stands for the form. Of each form there is one
-- at most.
pub record IsSheetOf (form : Tree) (sheet : Sheet) : Type 0 where
  pub faultless : sheet_fault form ≡ None
  pub stands : Stands sheet form
  pub well : IsWellFormed sheet

-- The form is accepted as this sheet: no part has a fault, and no guard and no domain of a choice reads what its mover doesn't
-- see.
pub record IsAccepted (form : Tree) (sheet : Sheet) : Type 0 where
  pub of_form : IsSheetOf form sheet
  pub sight : IsInSight sheet
