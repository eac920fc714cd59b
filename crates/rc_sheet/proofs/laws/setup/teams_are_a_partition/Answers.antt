use Rattle.rc_sheet.proofs.Fine.Teams.{teams_are_a_partition}
use Rattle.rc_sheet.proofs.laws.setup.teams_are_a_partition.Goals as goal

pub returns : goal.returns
returns c = λ tree sheet shaped sound is. teams_are_a_partition tree sheet shaped sound is
