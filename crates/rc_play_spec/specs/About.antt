-- What a match is played by.
use Rattle.std.specs.Prelude.{ℕ, List}
use Rattle.rc_sheet_spec.specs.Sheet.{Sheet}
use Rattle.rc_play_spec.specs.Control.{Frame, Control}
use Rattle.rc_play_spec.specs.Shape.{Shape, shape_of}
use Rattle.rc_play_spec.specs.Table.{Table}
use Rattle.rc_play_spec.specs.Value.{Scene}
use Rattle.rc_play_spec.specs.Scene.{CardValue, scene_of}
use Rattle.rc_play_spec.specs.Menu.{Item, menu_of}

-- a sheet, its shape and the turn limit
pub record About : Type 0 where
  pub sheet : Sheet
  pub shape : Shape
  pub turns : ℕ

abbrev pub about_of : Sheet → ℕ → About
about_of sheet turns = record { sheet = sheet; shape = shape_of sheet; turns = turns }

-- what expressions are read in
abbrev pub scene_at : About → Table → List Frame → Scene CardValue
scene_at about table frames = scene_of about.sheet about.shape table frames

-- the menu at a choice site
abbrev pub menu_at : About → ℕ → Table → Control → List Item
menu_at about site table control = menu_of (scene_at about table control.frames) site
