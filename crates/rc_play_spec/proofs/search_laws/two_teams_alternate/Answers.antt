use Rattle.rc_play_spec.proofs.Alternate.{two_teams}
use Rattle.rc_play_spec.proofs.search_laws.two_teams_alternate.Goals as goal

pub returns : goal.returns
returns c = two_teams
