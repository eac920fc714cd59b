use Rattle.rc_play_spec.proofs.TableLemmas.{sum-set, put_keeps}
use Rattle.rc_play_spec.proofs.laws.tables.moves_keep_cards.Goals as goal

pub returns-clause-lists : goal.returns-clause-lists
returns-clause-lists c = sum-set

pub returns-clause-put : goal.returns-clause-put
returns-clause-put c = put_keeps
