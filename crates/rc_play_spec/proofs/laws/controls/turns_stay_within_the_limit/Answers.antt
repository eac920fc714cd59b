use Rattle.rc_play_spec.proofs.TurnLemmas.{turns_within}
use Rattle.rc_play_spec.proofs.laws.controls.turns_stay_within_the_limit.Goals as goal

pub returns : goal.returns
returns c = λ about dealing items k at is. turns_within about dealing items k at is
