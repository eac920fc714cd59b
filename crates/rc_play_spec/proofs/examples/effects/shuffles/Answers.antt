use Rattle.std.proofs.Common.{refl}
use Rattle.rc_play_spec.proofs.examples.effects.shuffles.Goals as goal

pub returns-clause-list : goal.returns-clause-list
returns-clause-list c = refl

pub returns-clause-count : goal.returns-clause-count
returns-clause-count c = refl
