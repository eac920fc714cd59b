use Rattle.rc_play_spec.proofs.StopLemmas.{stop_again}
use Rattle.rc_play_spec.proofs.StopFacts.{stops_there, site_at_decision}
use Rattle.rc_play_spec.proofs.laws.steps.stops_stay.Goals as goal

pub returns-clause-again : goal.returns-clause-again
returns-clause-again c = λ about dealing k config at is. stop_again about dealing k config at is

pub returns-clause-there : goal.returns-clause-there
returns-clause-there c = λ about dealing k config at is. stops_there about dealing k config at is

pub returns-clause-site : goal.returns-clause-site
returns-clause-site c = λ about dealing k config at none is. site_at_decision about dealing k config at none is
