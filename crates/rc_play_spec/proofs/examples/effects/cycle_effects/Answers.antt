use Rattle.std.proofs.Common.{refl}
use Rattle.rc_play_spec.proofs.examples.effects.cycle_effects.Goals as goal

pub returns-clause-player : goal.returns-clause-player
returns-clause-player c = refl

pub returns-clause-team : goal.returns-clause-team
returns-clause-team c = refl

pub returns-clause-turned : goal.returns-clause-turned
returns-clause-turned c = refl
