use Rattle.rc_code.proofs.CompiledLemmas.{says_effects, says_items}
use Rattle.rc_code.proofs.laws.code_says_what_it_stands_for.Goals as goal

pub returns : goal.returns
returns c = (says_effects, says_items)
