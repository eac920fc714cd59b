-- Legends as bytes.
use Rattle.std.specs.Prelude.{◌≡◌, ℕ, List, []}
use Rattle.rc_sheet_spec.specs.Sheet.{Sheet}
use Rattle.rc_play_spec.specs.Shape.{shape_of}
use Rattle.rc_play_spec.specs.Naming.{legend_of}
use Rattle.rc_play_spec.specs.Reading.{lines_in}
use Rattle.rc_house.specs.declared.options.Format.{Format}
use Rattle.rc_house.specs.declared.options.Format.TheVariants.{Plain, Named}

-- the lines of these bytes are the sheet's legend
abbrev pub IsLegend : Sheet → List ℕ → Type 0
IsLegend sheet bytes = lines_in bytes ≡ (legend_of sheet (shape_of sheet), [])

-- the legend that a transcript of a format has: that of the sheet, or none
abbrev pub HasLegend : Format → Sheet → List ℕ → Type 0
HasLegend Plain sheet bytes = lines_in bytes ≡ ([], [])
HasLegend Named sheet bytes = IsLegend sheet bytes
