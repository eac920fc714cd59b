use Rattle.std.proofs.Common.{refl}
use Rattle.std.specs.Fmt.{digits}
use Rattle.rc_play_spec.proofs.examples.plays.cycles.Goals as goal

pub returns-clause-turned : goal.returns-clause-turned
unfolding digits
returns-clause-turned c = refl

pub returns-clause-named : goal.returns-clause-named
unfolding digits
returns-clause-named c = refl

pub returns-clause-teams : goal.returns-clause-teams
unfolding digits
returns-clause-teams c = refl
