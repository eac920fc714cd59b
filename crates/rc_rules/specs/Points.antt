-- What players add to the scores of teams.
use Rattle.std.specs.Prelude.{ℕ, ◌==◌, if◌then◌else◌, List, ℤ, pos, slice_index_or}
use Rattle.rc_sheet_spec.specs.Sheet.{Sheet}
use Rattle.rc_play_spec.specs.Shape.{team_in}

-- a player's score, where the player is in the team, and else nothing
abbrev pub share : Sheet → List ℤ → ℕ → ℕ → ℤ
share sheet scores team player =
    if team_in sheet.teams player == team then slice_index_or scores player (pos 0) else pos 0
