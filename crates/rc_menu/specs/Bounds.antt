-- What the items of a menu bind.
use Rattle.std.specs.Prelude.{◌≡◌}
use Rattle.rc_sheet_spec.specs.Sheet.{Alt, Sheet}
use Rattle.rc_sheet_spec.specs.WellFormed.{Around, IsAlt}

-- an alternative of a well formed sheet, outside all binders
abbrev pub IsAltOutside : Sheet → Alt → Type 0
IsAltOutside sheet alt = (around : Around) × (around.binders ≡ 0) × IsAlt sheet around alt
