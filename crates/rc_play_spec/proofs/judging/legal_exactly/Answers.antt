use Rattle.std.proofs.Common.{◌∙◌, sym}
use Rattle.rc_play_spec.proofs.AlongLemmas.{one_pass}
use Rattle.rc_play_spec.proofs.LegalLemmas.{legal_forth, legal_back}
use Rattle.rc_play_spec.proofs.judging.legal_exactly.Goals as goal

pub returns : goal.returns
returns c = λ about dealing plan named head n is. (
  (λ none. legal_forth about dealing plan named head n is (one_pass about dealing plan named head n is ∙ none)),
  (λ legal. sym (one_pass about dealing plan named head n is) ∙ legal_back about dealing plan named head n is legal),
)
