-- A table with the shape that it is laid for: what contracts see of a table.
use Rattle.std.specs.Prelude.{◌≡◌, ℕ, List, if◌then◌else◌, length, map, Option, Some}
use Rattle.rc_base.specs.Limits.{most_in_mem}
use Rattle.rc_play_spec.specs.Shape.{Place as PurePlace, Shape as PureShape, holds_references}
use Rattle.rc_play_spec.specs.Table.{Table as PureTable, IsSound}
use Rattle.rc_table.specs.Shape.{IsShape}
use Rattle.rc_table.specs.Whereabouts.{whereabouts}

pub record Laid : Type 0 where
  pub shape : PureShape
  pub table : PureTable

-- the same shape with another table
abbrev pub relaid : Laid → PureTable → Laid
relaid laid table = record { shape = laid.shape; table = table }

-- the most that a location may hold: 512 references, or else as many cards as there are
abbrev pub room_in : PureShape → Option PurePlace → ℕ
room_in shape place = if holds_references place then most_in_mem else length shape.faces

-- the same for each location
abbrev pub rooms : PureShape → List ℕ
rooms shape = map (λ place. room_in shape (Some place)) shape.places

-- what a table keeps: it is sound, has room for all that later edits put into it, and has noted where each card stands
pub record IsLaid (laid : Laid) (room : List ℕ) (stand : List (ℕ × ℕ)) : Type 0 where
  pub limits : IsShape laid.shape
  pub sound : IsSound laid.shape laid.table
  pub fits : room ≡ rooms laid.shape
  pub noted : stand ≡ whereabouts laid.shape laid.table
