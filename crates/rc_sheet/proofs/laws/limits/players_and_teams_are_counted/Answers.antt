use Rattle.rc_sheet.proofs.PlayersAndTeams.{counts_are}
use Rattle.rc_sheet.proofs.laws.limits.players_and_teams_are_counted.Goals as goal

pub returns : goal.returns
returns c = λ naming tree sheet is. let counts = counts_are naming tree sheet is in (counts.players, counts.teams)
