use Rattle.rc_play_spec.proofs.AlongLemmas.{one_pass}
use Rattle.rc_play_spec.proofs.judging.one_pass_judges.Goals as goal

pub returns : goal.returns
returns c = λ about dealing plan named head n is. one_pass about dealing plan named head n is
