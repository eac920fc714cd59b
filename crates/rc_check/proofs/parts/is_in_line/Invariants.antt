use Rattle.std.proofs.Common.{◌≡◌, drop}
use Rattle.rc_sheet_spec.specs.WellFormed.{is_among}
use Rattle.rc_form.specs.Form.{trees_of, packed}
use Rattle.rc_check.specs.SecondNames.{team_players}
use Rattle.rc_check.proofs.parts.is_in_line.Given as goal

-- the player stands in the teams that are left exactly where it stands in all
abbrev pub invariant-loop-team : goal.invariant-loop-team
invariant-loop-team l =
    is_among l.player (team_players (packed (trees_of (drop l.team-index l.line))))
    ≡ is_among l.player (team_players (packed (trees_of l.line)))
