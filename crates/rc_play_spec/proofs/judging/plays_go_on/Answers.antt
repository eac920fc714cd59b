use Rattle.rc_play_spec.proofs.GoesOn.{reached_append}
use Rattle.rc_play_spec.proofs.judging.plays_go_on.Goals as goal

pub returns : goal.returns
returns c = λ about dealing items more k. reached_append about dealing items more k
