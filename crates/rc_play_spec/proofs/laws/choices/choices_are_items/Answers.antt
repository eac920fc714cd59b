use Rattle.rc_play_spec.proofs.ChoiceLemmas.{choice-lt}
use Rattle.rc_play_spec.proofs.laws.choices.choices_are_items.Goals as goal

pub returns : goal.returns
returns c = choice-lt
