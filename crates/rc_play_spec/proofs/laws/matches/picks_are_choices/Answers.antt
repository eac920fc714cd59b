use Rattle.rc_play_spec.proofs.MatchLemmas.{keyed_taken}
use Rattle.rc_play_spec.proofs.laws.matches.picks_are_choices.Goals as goal

pub returns : goal.returns
returns c = keyed_taken
