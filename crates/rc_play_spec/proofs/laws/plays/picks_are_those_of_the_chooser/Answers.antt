use Rattle.rc_play_spec.proofs.NextLemmas.{pick_taken}
use Rattle.rc_play_spec.proofs.laws.plays.picks_are_those_of_the_chooser.Goals as goal

pub returns : goal.returns
returns c = λ about dealing chooser keeps k p is n seat site at leads stands. pick_taken about dealing chooser keeps k p is n seat site at leads stands
