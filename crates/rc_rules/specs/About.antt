-- What a match is played by, as the definitions of play have it.
use Rattle.std.specs.Prelude.{◌≡◌}
use Rattle.rc_sheet_spec.specs.WellFormed.{IsWellFormed}
use Rattle.rc_sheet_spec.specs.Sight.{IsInSight}
use Rattle.rc_play_spec.specs.Shape.{shape_of}
use Rattle.rc_play_spec.specs.About.{About as PureAbout}
use Rattle.rc_rules.specs.Lookup.{IsLookup}
use Rattle.rc_rules.specs.declared.about.About.TheInside.{Inside}

abbrev pub about_seen : Inside → PureAbout
about_seen about = record { sheet = about.checked.value; shape = about.shape.value; turns = about.turns }

-- the sheet is checked, the shape is its own, and the names are looked up in them
pub record IsAbout (about : Inside) : Type 0 where
  pub well : IsWellFormed about.checked.value
  pub sight : IsInSight about.checked.value
  pub shape : about.shape.value ≡ shape_of about.checked.value
  pub looked_up : IsLookup about.checked.value about.shape.value about.lookup.value
