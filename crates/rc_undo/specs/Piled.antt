-- The cards of a location on top of another one.
use Rattle.std.specs.Prelude.{ℕ, List, map, fold, slice_get}
use Rattle.rc_sheet_spec.specs.Sheet.{top}
use Rattle.rc_play_spec.specs.Shape.{Shape, holds_references}
use Rattle.rc_play_spec.specs.Scene.{CardValue, value_in}
use Rattle.rc_play_spec.specs.Table.{Table, list_at}
use Rattle.rc_play_spec.specs.Value.{cut}
use Rattle.rc_play_spec.specs.Effects.{move_card}

-- the cards or references of a location, of which the first count, up to a limit
abbrev pub cards_of : Shape → Table → ℕ → List CardValue
cards_of shape table loc = cut (map (value_in (holds_references (slice_get shape.places loc)) loc) (list_at table loc))

-- the table with these on top of a location, where references stay
abbrev pub topped : Shape → ℕ → Table → List CardValue → Table
topped shape to table cards = fold (move_card shape top to) table cards

-- the table with what is in a location on top of that one
abbrev pub piled : Shape → (to from : ℕ) → Table → Table
piled shape to from table = topped shape to table (cards_of shape table from)
