use Rattle.std.proofs.Common.{refl}
use Rattle.rc_play_spec.proofs.examples.plays.forty_choices.Goals as goal

pub returns-clause-picks : goal.returns-clause-picks
returns-clause-picks c = refl

pub returns-clause-turn : goal.returns-clause-turn
returns-clause-turn c = refl

pub returns-clause-shuffles : goal.returns-clause-shuffles
returns-clause-shuffles c = refl
