-- Machines as the definitions of play have them.
use Rattle.std.specs.Prelude.{ℕ, ◌≤◌, List, [], slice_index_or, All}
use Rattle.rc_sheet_spec.specs.Sheet.{Alt}
use Rattle.rc_sheet_spec.specs.Lists.{item_list}
use Rattle.rc_play_spec.specs.Control.{Control}
use Rattle.rc_play_spec.specs.Table.{Table}
use Rattle.rc_play_spec.specs.About.{About, scene_at}
use Rattle.rc_play_spec.specs.Menu.{Item, menu_from}
use Rattle.rc_play_spec.specs.Step.{Config}
use Rattle.rc_play_spec.specs.Path.{Path, left_of}
use Rattle.rc_play_spec.specs.Fits.{HasFrames}
use Rattle.rc_plain.specs.Paths.{IsPath}

-- what a match is played by, the path to the next item, the table and the control
pub record Plain : Type 0 where
  pub about : About
  pub path : Path
  pub table : Table
  pub control : Control

-- where it stands: what is left to run is what the path leaves
abbrev pub config_of : Plain → Config
config_of m = record { left = left_of (item_list m.about.sheet.items) m.path; table = m.table; control = m.control }

-- The path leads through stages of the sheet, the frames are those of the open stages, the turn count is at most the turn
-- limit, and each seat's count of decisions at most the turn count.
pub record IsInPlay (m : Plain) : Type 0 where
  pub stands : IsPath m.about.sheet m.path
  pub frames : HasFrames (config_of m)
  pub turn : m.control.turn ≤ m.about.turns
  pub counts : All (λ n. n ≤ m.control.turn) m.control.made

-- the item of the menu that is chosen by its place
abbrev pub chosen_item : Plain → List Alt → ℕ → Item
chosen_item m alts x =
    slice_index_or (menu_from (scene_at m.about m.table m.control.frames) alts) x (record { alt = 0; spots = [] })
