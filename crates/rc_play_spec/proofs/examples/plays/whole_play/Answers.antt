use Rattle.std.proofs.Common.{refl}
use Rattle.std.specs.Fmt.{digits}
use Rattle.rc_play_spec.proofs.examples.plays.whole_play.Goals as goal

pub returns : goal.returns
unfolding digits
returns c = refl
