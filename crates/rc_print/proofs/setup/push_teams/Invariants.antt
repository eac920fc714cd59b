use Rattle.std.proofs.Common.{◌≡◌, ◌++◌, map, drop}
use Rattle.rc_base.specs.Tree.{printed_behind}
use Rattle.rc_sheet_spec.specs.Printing.{packed, team_form}
use Rattle.rc_print.proofs.setup.push_teams.Given as goal

-- what is printed and what is left are the whole
abbrev pub invariant-loop-team : goal.invariant-loop-team
invariant-loop-team l =
    l.out.bytes.items ++ printed_behind (packed (map team_form (map (λ players. players.items) (drop l.team-index l.team-items))))
    ≡ l.initial.out.bytes.items ++ printed_behind (packed (map team_form (map (λ players. players.items) l.team-items)))
