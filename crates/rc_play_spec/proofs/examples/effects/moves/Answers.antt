use Rattle.std.proofs.Common.{refl}
use Rattle.rc_play_spec.proofs.examples.effects.moves.Goals as goal

pub returns-clause-all : goal.returns-clause-all
returns-clause-all c = refl

pub returns-clause-under : goal.returns-clause-under
returns-clause-under c = refl

pub returns-clause-once : goal.returns-clause-once
returns-clause-once c = refl

pub returns-clause-noted : goal.returns-clause-noted
returns-clause-noted c = refl
