use Rattle.std.proofs.Common.{refl}
use Rattle.std.specs.Fmt.{digits}
use Rattle.rc_play_spec.proofs.examples.plays.rotation.Goals as goal

pub returns-clause-even : goal.returns-clause-even
unfolding digits
returns-clause-even c = refl

pub returns-clause-odd : goal.returns-clause-odd
unfolding digits
returns-clause-odd c = refl
