use Rattle.rc_play_spec.proofs.ToldBack.{told_back}
use Rattle.rc_play_spec.proofs.what_is_played.what_is_played_is_told_back.Goals as goal

pub returns : goal.returns
returns c = λ named about plan is few. told_back about plan is few named
