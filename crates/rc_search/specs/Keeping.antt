-- Moments that are kept while items are tried.
use Rattle.std.specs.Prelude.{◌≡◌, List, Option, None, Some, All, Box}
use Rattle.std.specs.Global.{Global}
use Rattle.rc_play_spec.specs.Shape.{Shape}
use Rattle.rc_play_spec.specs.About.{About}
use Rattle.rc_play_spec.specs.Step.{Config}
use Rattle.rc_code.specs.Instruction.{Instruction}
use Rattle.rc_flat.specs.Moments.{IsMoment}
use Rattle.rc_flat.specs.declared.moments.Moment.{Moment}
use Rattle.rc_search.specs.declared.rooms.Rooms.{Rooms}

-- the tables of all free room are laid for this shape
abbrev pub AreOfShape : Shape → Rooms → Type 0
AreOfShape shape rooms = All (λ room. room.value.table.shape ≡ shape) rooms.free.items

-- a moment is kept, and is that of a match of this about that stands here
abbrev pub IsKept : About → List Instruction → Config → Option (Box Moment Global) → Type 0
IsKept about code config None = ⊥
IsKept about code config (Some room) = IsMoment about code config room.value
