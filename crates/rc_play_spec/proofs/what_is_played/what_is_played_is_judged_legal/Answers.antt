use Rattle.rc_play_spec.proofs.Judged.{judged_legal}
use Rattle.rc_play_spec.proofs.what_is_played.what_is_played_is_judged_legal.Goals as goal

pub returns : goal.returns
returns c = λ about plan is t read. judged_legal about plan is t read
