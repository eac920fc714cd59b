use Rattle.rc_play_spec.proofs.ChoiceLemmas.{same_choice}
use Rattle.rc_play_spec.proofs.laws.choices.choices_are_functions_of_views.Goals as goal

pub returns : goal.returns
returns c = same_choice
