-- Statements of laws of searches.
use Rattle.std.specs.Prelude.{◌≡◌, ℕ, ◌<◌, ◌≤◌, ◌++◌, [], ◌∷◌, nat_lt, if◌then◌else◌, List, length, slice_index}
use Rattle.rc_sheet_spec.specs.Sheet.{Sheet, team_class}
use Rattle.rc_sheet_spec.specs.WellFormed.{IsWellFormed, owner_count}
use Rattle.rc_play_spec.specs.Control.{Control}
use Rattle.rc_play_spec.specs.Shape.{shape_of}
use Rattle.rc_play_spec.specs.Table.{Table}
use Rattle.rc_play_spec.specs.About.{About}
use Rattle.rc_play_spec.specs.Effects.{Dealing}
use Rattle.rc_play_spec.specs.Decision.{at_site}
use Rattle.rc_play_spec.specs.Fits.{FitsSite}
use Rattle.rc_play_spec.specs.Search.{best_for, at_stop, next_behind, worth}
use Rattle.rc_play_spec.specs.SearchValue.{most_points, value}

-- Of lists one after the other the earlier one stays the best, unless the player has more in the later one.
abbrev pub BestComesFirst : Type 0
BestComesFirst =
    (player : ℕ) (lists : List (List ℕ)) (list : List ℕ) → 0 < length lists →
    best_for player (lists ++ list ∷ [])
    ≡ (if nat_lt (slice_index (best_for player lists) player) (slice_index list player)
    then list
    else best_for player lists)

-- the players are of two teams; without teams each of two players is one
abbrev pub HasTwoTeams : Sheet → Type 0
HasTwoTeams sheet = owner_count sheet team_class ≡ 2

-- In a game of two teams what an item is worth to a seat can be told without the points of the others.
abbrev pub TwoTeamsAlternate : Type 0
TwoTeamsAlternate =
    (about : About) (dealing : Dealing ℕ) (seat site depth made x : ℕ) (table : Table) (control : Control) →
    about.shape ≡ shape_of about.sheet → IsWellFormed about.sheet → HasTwoTeams about.sheet →
    seat < about.sheet.players → FitsSite about site control →
    let behind = next_behind about dealing (at_site about table control) made x in
    (slice_index (at_stop [] (worth about dealing depth) behind) seat
    ≡ at_stop 0 (value about dealing seat depth) behind)
    × (at_stop 0 (value about dealing seat depth) behind ≤ most_points about.sheet seat)
