use Rattle.rc_play_spec.proofs.PlayoutLemmas.{totals_bounded, tally-length}
use Rattle.rc_play_spec.proofs.laws.choices.tallies_are_bounded.Goals as goal

pub returns-clause-items : goal.returns-clause-items
returns-clause-items c = tally-length

pub returns-clause-bounded : goal.returns-clause-bounded
returns-clause-bounded c = totals_bounded
