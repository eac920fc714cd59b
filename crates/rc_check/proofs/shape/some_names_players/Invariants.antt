use Rattle.std.proofs.Common.{◌≡◌, drop}
use Rattle.rc_form.specs.Form.{trees_of, packed}
use Rattle.rc_check.specs.Faults.{some_names_players}
use Rattle.rc_check.proofs.shape.some_names_players.Given as goal

-- one of the lines that are left is one for the players exactly where one of all lines is
abbrev pub invariant-loop-line : goal.invariant-loop-line
invariant-loop-line l =
    some_names_players (packed (trees_of (drop l.line-index l.lines))) ≡ some_names_players (packed (trees_of l.lines))
