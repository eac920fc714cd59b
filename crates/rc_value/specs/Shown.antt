-- The seats for which a card is marked when it is shown.
use Rattle.std.specs.Prelude.{ℕ, nat_lt, Bool, ◌&&◌, ◌||◌, not, List}
use Rattle.rc_sheet_spec.specs.Sheet.{Class}
use Rattle.rc_play_spec.specs.Shape.{Shape}
use Rattle.rc_play_spec.specs.Sees.{sees}
use Rattle.rc_play_spec.specs.Table.{is_marked}
use Rattle.rc_play_spec.specs.Effects.{is_named}

-- a player for whom it is marked before, or who is meant and doesn't see the location
abbrev pub is_shown_to : Shape → List (List ℕ) → (id loc : ℕ) → Class → (owner seat : ℕ) → Bool
is_shown_to shape marks id loc class owner seat =
    nat_lt seat shape.players
    && (is_marked marks seat id || (is_named shape class owner seat && not (sees shape seat loc)))
