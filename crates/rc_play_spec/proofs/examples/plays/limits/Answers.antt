use Rattle.std.proofs.Common.{refl}
use Rattle.std.specs.Fmt.{digits}
use Rattle.rc_play_spec.proofs.examples.plays.limits.Goals as goal

pub returns-clause-decision : goal.returns-clause-decision
unfolding digits
returns-clause-decision c = refl

pub returns-clause-early : goal.returns-clause-early
unfolding digits
returns-clause-early c = refl
