-- Statements of laws: which views a shape has, that their bytes tell them apart, and that these are few.
use Rattle.std.specs.Prelude.{◌≡◌, ◌↔◌, ℕ, ◌<◌, ◌≤◌, ◌^◌, Bool, true, false, List, [], ◌∷◌, length, All, IfSome, Some}
use Rattle.rc_base.specs.Clamp.{IsWithinClamp}
use Rattle.rc_base.specs.Limits.{most_in_list, most_open}
use Rattle.rc_sheet_spec.specs.WellFormed.{IsWellFormed}
use Rattle.rc_play_spec.specs.About.{About}
use Rattle.rc_play_spec.specs.Fits.{FitsSite}
use Rattle.rc_play_spec.specs.Control.{Control, Frame}
use Rattle.rc_play_spec.specs.Shape.{Place, Shape}
use Rattle.rc_play_spec.specs.Sees.{sees_place}
use Rattle.rc_play_spec.specs.Table.{Table, IsSound}
use Rattle.rc_play_spec.specs.View.{Sight, with_faces, partly, View, view_of}
use Rattle.rc_table.specs.Shape.{IsShape}
use Rattle.rc_view.specs.Key.{key_of, known_places}

-- a frame that its bytes have room for; no named member is 255, which stands for none
pub record HasFrameKey (frame : Frame) : Type 0 where
  pub stage : frame.stage < 2 ^ 16
  pub named : IfSome frame.named (λ n. n < 255)

-- a control that its bytes have room for; no site is 255, which stands for none
pub record HasControlKey (control : Control) : Type 0 where
  pub site : IfSome control.site (λ n. n < 255)
  pub turn : control.turn < 2 ^ 32
  pub made : All (λ n. n < 2 ^ 32) control.made
  pub frames : All HasFrameKey control.frames

-- faces where they are seen, and else those that are known
abbrev pub IsSightIn : Bool → Sight → Type 0
IsSightIn true (with_faces numbers) = (length numbers ≤ most_in_list) × All (λ n. n < 2 ^ 16) numbers
IsSightIn true (partly os) = ⊥
IsSightIn false (with_faces numbers) = ⊥
IsSightIn false (partly os) = (length os ≤ most_in_list) × All (λ known. known.1 < 2 ^ 16) (known_places 0 os)

-- one for each location
abbrev pub AreSightsIn : Shape → ℕ → List Place → List Sight → Type 0
AreSightsIn shape seat [] [] = Unit {0}
AreSightsIn shape seat [] (sight ∷ sights) = ⊥
AreSightsIn shape seat (place ∷ places) [] = ⊥
AreSightsIn shape seat (place ∷ places) (sight ∷ sights) =
    IsSightIn (sees_place shape seat (Some place)) sight × AreSightsIn shape seat places sights

-- A view that has a shape: as many counts of decisions, numbers and locations as the shape has, faces where the seat sees them,
-- and everything within its range.
pub record IsViewIn (shape : Shape) (view : View) : Type 0 where
  pub control : HasControlKey view.control
  pub each_made : length view.control.made ≡ shape.players
  pub each_number : length view.numbers ≡ shape.numbers
  pub clamped : All IsWithinClamp view.numbers
  pub sights : AreSightsIn shape view.seat shape.places view.sights

-- two views of one shape have equal bytes exactly where they are equal
abbrev pub KeysTellViews : Type 0
KeysTellViews =
    (shape : Shape) (view view' : View) → IsViewIn shape view → IsViewIn shape view' →
    (key_of view ≡ key_of view') ↔ (view ≡ view')

-- What a seat sees of a sound table takes fewer than 8,000 bytes, where no more stages are open than a sheet may have inside one
-- another and there is one count of decisions for each player.
abbrev pub KeysAreShort : Type 0
KeysAreShort =
    (shape : Shape) (seat : ℕ) (table : Table) (control : Control) → IsShape shape → IsSound shape table →
    length control.frames ≤ most_open → length control.made ≡ shape.players →
    length (key_of (view_of shape seat table control)) < 8000

-- a control that fits a choice site of a well formed sheet has room in the bytes, and one count of decisions for each player
abbrev pub FittingControlsHaveKeys : Type 0
FittingControlsHaveKeys =
    (about : About) (site : ℕ) (control : Control) → IsWellFormed about.sheet → FitsSite about site control →
    control.turn < 2 ^ 32 →
    HasControlKey control × (length control.made ≡ about.sheet.players)
