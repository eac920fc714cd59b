-- The bytes by which a view is known. Numbers have their lowest bytes first. There are as many counts of decisions, numbers and
-- locations as the shape says, so none of these is preceded by how many there are.
use Rattle.std.specs.Prelude.{ℕ, ◌+◌, Bool, true, false, List, [], ◌∷◌, ◌++◌, length, flat_map, Option, Some, None, ℤ, ◌≤◌, All}
use Rattle.std.specs.Int.{w16, w32, to_le_bytes, cast_unsigned}
use Rattle.rc_base.specs.Clamp.{IsWithinClamp}
use Rattle.rc_base.specs.Limits.{most_in_list}
use Rattle.rc_play_spec.specs.Control.{Control, Frame}
use Rattle.rc_play_spec.specs.View.{Sight, with_faces, partly, View}

-- 255 stands for none
abbrev pub or_none : Option ℕ → ℕ
or_none None = 255
or_none (Some n) = n

-- 1 is backward
abbrev pub direction : Bool → ℕ
direction true = 1
direction false = 0

abbrev pub frame_key : Frame → List ℕ
frame_key frame = to_le_bytes w16 frame.stage ++ frame.member ∷ direction frame.back ∷ or_none frame.named ∷ []

abbrev pub control_key : Control → List ℕ
control_key control =
    or_none control.site ∷ to_le_bytes w32 control.turn
    ++ (flat_map (to_le_bytes w32) control.made ++ length control.frames ∷ flat_map frame_key control.frames)

abbrev pub number_key : ℤ → List ℕ
number_key number = to_le_bytes w32 (cast_unsigned w32 number)

-- the known places from one on, each with the number of its face
abbrev pub known_places : ℕ → List (Option ℕ) → List (ℕ × ℕ)
known_places at [] = []
known_places at (Some f ∷ os) = (at, f) ∷ known_places (at + 1) os
known_places at (None ∷ os) = known_places (at + 1) os

abbrev pub place_key : ℕ × ℕ → List ℕ
place_key known = to_le_bytes w16 known.0 ++ to_le_bytes w16 known.1

-- how many places there are; the faces where all of them are seen, and otherwise how many are known, and these
abbrev pub sight_key : Sight → List ℕ
sight_key (with_faces numbers) = to_le_bytes w16 (length numbers) ++ flat_map (to_le_bytes w16) numbers
sight_key (partly os) =
    to_le_bytes w16 (length os)
    ++ (to_le_bytes w16 (length (known_places 0 os)) ++ flat_map place_key (known_places 0 os))

abbrev pub key_of : View → List ℕ
key_of view =
    view.seat ∷ control_key view.control ++ (flat_map number_key view.numbers ++ flat_map sight_key view.sights)

-- what is seen of a location is no longer than it can be
abbrev pub IsShort : Sight → Type 0
IsShort (with_faces numbers) = length numbers ≤ most_in_list
IsShort (partly os) = length os ≤ most_in_list

-- what the bytes have room for: numbers within the clamp, and lists no longer than a location's
pub record HasKey (view : View) : Type 0 where
  pub numbers : All IsWithinClamp view.numbers
  pub sights : All IsShort view.sights
