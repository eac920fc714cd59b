-- The fields of a checked sheet.
use Rattle.rc_sheet_spec.specs.Sheet.{Sheet}
use Rattle.rc_sheet_spec.specs.WellFormed.{IsWellFormed}
use Rattle.rc_sheet_spec.specs.Sight.{IsInSight}
use Rattle.rc_ast.specs.Sheet.{sheet_seen}
use Rattle.rc_flow.specs.declared.check.Checked.TheInside.{Inside}

-- what contracts see of it
abbrev pub checked_seen : Inside → Sheet
checked_seen checked = sheet_seen checked.sheet

pub record IsChecked (checked : Inside) : Type 0 where
  pub well : IsWellFormed (sheet_seen checked.sheet)
  pub sight : IsInSight (sheet_seen checked.sheet)
