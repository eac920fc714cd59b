use Rattle.std.proofs.Common.{◌≡◌, ◌-◌}
use Rattle.std.specs.List.{list_all, range_with_len}
use Rattle.rc_sheet_spec.specs.WellFormed.{is_among}
use Rattle.rc_form.specs.Form.{trees_of, packed}
use Rattle.rc_check.specs.SecondNames.{team_players}
use Rattle.rc_check.proofs.parts.misses_player.Given as goal

-- the players that are left are all in teams exactly where all are
abbrev pub invariant-loop-player : goal.invariant-loop-player
invariant-loop-player l =
    list_all (λ player. is_among player (team_players (packed (trees_of l.line))))
    (range_with_len l.player (l.players - l.player))
    ≡ list_all (λ player. is_among player (team_players (packed (trees_of l.line)))) (range_with_len 0 l.players)
