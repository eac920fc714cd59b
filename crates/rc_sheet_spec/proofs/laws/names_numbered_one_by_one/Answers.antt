use Rattle.rc_sheet_spec.proofs.NumberingLemmas.{different_words}
use Rattle.rc_sheet_spec.proofs.laws.names_numbered_one_by_one.Goals as goal

pub returns : goal.returns
returns c words numbers apart one_by_one = different_words words apart numbers one_by_one
