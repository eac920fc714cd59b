use Rattle.std.proofs.Common.{refl}
use Rattle.std.specs.Fmt.{digits}
use Rattle.rc_play_spec.proofs.examples.plays.changed_lines.Goals as goal

pub returns-clause-counts : goal.returns-clause-counts
unfolding digits
returns-clause-counts c = refl

pub returns-clause-refuses : goal.returns-clause-refuses
unfolding digits
returns-clause-refuses c = refl

pub returns-clause-lowest : goal.returns-clause-lowest
unfolding digits
returns-clause-lowest c = refl

pub returns-clause-twice : goal.returns-clause-twice
unfolding digits
returns-clause-twice c = refl
