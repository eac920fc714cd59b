-- Which ids are taken.
use Rattle.std.specs.Prelude.{◌≡◌, ℕ, ◌<◌, ◌==◌, Bool, false, List, length, slice_index_or}
use Rattle.std.specs.List.{list_any}
use Rattle.rc_play_spec.specs.Shape.{Shape}

-- a flag for each card of the shape: whether its id is among the ids
pub record Marks (shape : Shape) (ids : List ℕ) (flags : List Bool) : Type 0 where
  pub each : length flags ≡ length shape.faces
  pub tell : (id : ℕ) → id < length shape.faces → slice_index_or flags id false ≡ list_any (λ other. other == id) ids
