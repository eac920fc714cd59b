use Rattle.rc_sheet.proofs.SomePlayers.{some_players, some_teams}
use Rattle.rc_sheet.proofs.laws.setup.someone_plays.Goals as goal

pub returns-clause-players : goal.returns-clause-players
returns-clause-players c tree shaped sound = some_players tree shaped sound

pub returns-clause-teams : goal.returns-clause-teams
returns-clause-teams c tree shaped sound = some_teams tree shaped sound
