-- Ends of a location.
use Rattle.rc_sheet_spec.specs.Sheet.{End, top, bottom}
use Rattle.rc_undo.specs.declared.noting.Side.{Side}
use Rattle.rc_undo.specs.declared.noting.Side.TheVariants.{Top, Bottom}

abbrev pub end_of : Side → End
end_of Top = top
end_of Bottom = bottom
