use Rattle.rc_play_spec.proofs.PathLemmas.{left-item, left-round, left-into, left-turn}
use Rattle.rc_play_spec.proofs.laws.paths.paths_leave_what_steps_leave.Goals as goal

pub returns-clause-passes : goal.returns-clause-passes
returns-clause-passes c = left-item

pub returns-clause-at_round : goal.returns-clause-at_round
returns-clause-at_round c = left-round

pub returns-clause-enters : goal.returns-clause-enters
returns-clause-enters c = left-into

pub returns-clause-ends : goal.returns-clause-ends
returns-clause-ends c = left-turn
