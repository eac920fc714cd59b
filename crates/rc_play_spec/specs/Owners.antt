-- Who is the current player and the current team, and which number what an owner has of a name is.
use Rattle.std.specs.Prelude.{ℕ, zero, suc, ◌+◌, ◌&&◌, nat_lt, Bool, true, false, if◌then◌else◌, List, [], ◌∷◌, ◌++◌, filter, slice_get, Option, Some, None, option_map, unwrap_or}
use Rattle.rc_sheet_spec.specs.Sheet.{Class, game_class, player_class, team_class, SheetItem, do_item, stage, choice, SheetItems, no_item, item, Sheet}
use Rattle.rc_sheet_spec.specs.WellFormed.{owner_count}
use Rattle.rc_play_spec.specs.Ends.{last_of}
use Rattle.rc_play_spec.specs.Control.{Frame}

-- the classes of the stages, by their numbers
abbrev mutual
  pub classes_in_item : SheetItem → List Class
  classes_in_item (do_item effects) = []
  classes_in_item (stage place class end body) = class ∷ classes_in body
  classes_in_item (choice site alts) = []

  pub classes_in : SheetItems → List Class
  classes_in no_item = []
  classes_in (item i items) = classes_in_item i ++ classes_in items

abbrev pub class_eq : Class → Class → Bool
class_eq game_class game_class = true
class_eq player_class player_class = true
class_eq team_class team_class = true
class_eq class other = false

abbrev pub is_of_class : Class → Option Class → Bool
is_of_class class None = false
is_of_class class (Some other) = class_eq other class

-- whether the stage with this number is of this class
abbrev pub is_stage_of : Sheet → Class → ℕ → Bool
is_stage_of sheet class number = is_of_class class (slice_get (classes_in sheet.items) number)

-- the open stages of this class
abbrev pub frames_of : Sheet → Class → List Frame → List Frame
frames_of sheet class frames = filter (λ frame. is_stage_of sheet class frame.stage) frames

-- the current member of the innermost stage of this class, and 0 where there is none
abbrev pub current_in : Sheet → Class → List Frame → ℕ
current_in sheet class frames =
    unwrap_or (option_map (λ (frame : Frame). frame.member) (last_of (frames_of sheet class frames))) 0

-- the mover of a choice is the current player
abbrev pub mover : Sheet → List Frame → ℕ
mover sheet frames = current_in sheet player_class frames

-- The number of what this owner of this class has of the name, among names of these classes: the counts of the owners of the
-- names before it, and the owner's number. Nothing where the name is of another class, or where there is no such owner.
abbrev pub place_among : Sheet → Class → List Class → ℕ → ℕ → Option ℕ
place_among sheet class [] name owner = None
place_among sheet class (other ∷ classes) zero owner =
    if class_eq other class && nat_lt owner (owner_count sheet other) then Some owner else None
place_among sheet class (other ∷ classes) (suc name) owner =
    option_map (λ n. owner_count sheet other + n) (place_among sheet class classes name owner)
