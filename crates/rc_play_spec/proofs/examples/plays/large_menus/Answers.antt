use Rattle.std.proofs.Common.{refl}
use Rattle.std.specs.Fmt.{digits}
use Rattle.rc_play_spec.proofs.examples.plays.large_menus.Goals as goal

pub returns-clause-last : goal.returns-clause-last
unfolding digits
returns-clause-last c = refl

pub returns-clause-first : goal.returns-clause-first
unfolding digits
returns-clause-first c = refl
