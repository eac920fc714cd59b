-- Machines as the definitions of play have them.
use Rattle.std.specs.Prelude.{◌≡◌, ℕ, ◌≤◌, ◌<◌, false, List, [], length, slice_get, slice_index_or, Some, All}
use Rattle.rc_sheet_spec.specs.Sheet.{Alt}
use Rattle.rc_play_spec.specs.Control.{Control}
use Rattle.rc_play_spec.specs.Table.{Table}
use Rattle.rc_play_spec.specs.About.{About, scene_at, menu_at}
use Rattle.rc_play_spec.specs.Menu.{Item, menu_from, alts_at}
use Rattle.rc_play_spec.specs.Step.{Config}
use Rattle.rc_play_spec.specs.Path.{Path}
use Rattle.rc_play_spec.specs.Fits.{HasFrames}
use Rattle.rc_code.specs.Instruction.{Block, Instruction, offer}
use Rattle.rc_code.specs.Meaning.{left_in}
use Rattle.rc_flat.specs.Places.{IsPlace}
use Rattle.rc_flat.specs.Shallow.{AreShallow}

-- what a match is played by, the code, the place in it, the table and the control
pub record Flat : Type 0 where
  pub about : About
  pub code : List Instruction
  pub place : Path
  pub table : Table
  pub control : Control

-- where it stands: what is left to run is what is left at the place
abbrev pub config_of : Flat → Config
config_of m = record { left = left_in m.code m.place; table = m.table; control = m.control }

abbrev pub flat_from : About → List Instruction → Path → Table → Control → Flat
flat_from about code place table control =
    record { about = about; code = code; place = place; table = table; control = control }

-- The place is one of the code. The frames are those of the open stages, and no more than 63 stages ever stand inside one another.
-- The turn count is at most the turn limit, and each seat's count of decisions at most the turn count.
pub record IsInPlay (m : Flat) : Type 0 where
  pub stands : IsPlace m.code m.place
  pub frames : HasFrames (config_of m)
  pub shallow : AreShallow (config_of m).left
  pub turn : m.control.turn ≤ m.about.turns
  pub counts : All (λ n. n ≤ m.control.turn) m.control.made

-- a choice stands there
abbrev pub IsChoiceAt : List Instruction → ℕ → Type 0
IsChoiceAt code place =
    (site : ℕ) × (alts : List Alt) × (blocks : List Block) × (inside : ℕ)
    × (slice_get code place ≡ Some (offer site alts blocks inside))

-- the choice with this site is next, and it offers something
pub record IsOffered (m : Flat) (site : ℕ) : Type 0 where
  pub here : m.place.at_round ≡ false
  pub blocks : List Block
  pub inside : ℕ
  pub there : slice_get m.code m.place.next ≡ Some (offer site (alts_at m.about.sheet site) blocks inside)
  pub some : 0 < length (menu_at m.about site m.table m.control)

-- the item of the menu that is chosen by its place
abbrev pub chosen_item : Flat → List Alt → ℕ → Item
chosen_item m alts x =
    slice_index_or (menu_from (scene_at m.about m.table m.control.frames) alts) x (record { alt = 0; spots = [] })
