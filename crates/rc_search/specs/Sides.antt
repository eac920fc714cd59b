-- The teams of players.
use Rattle.std.specs.Prelude.{◌≡◌, ℕ, List, map}
use Rattle.rc_base.specs.Numbers.{below}
use Rattle.rc_sheet_spec.specs.Sheet.{Sheet}
use Rattle.rc_play_spec.specs.Shape.{team_in}

-- these are the teams of the players of a sheet, one after the other
abbrev pub AreSides : Sheet → List ℕ → Type 0
AreSides sheet sides = sides ≡ map (team_in sheet.teams) (below sheet.players)
