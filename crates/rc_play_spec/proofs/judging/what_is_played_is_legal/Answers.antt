use Rattle.std.proofs.Common.{ap}
use Rattle.rc_play_spec.proofs.PlayedLemmas.{played_legal_in, played_used}
use Rattle.rc_play_spec.proofs.SameTexts.{text_same}
use Rattle.rc_play_spec.specs.PlayedLaws.{played_text}
use Rattle.rc_play_spec.proofs.judging.what_is_played_is_legal.Goals as goal

pub returns-clause-text : goal.returns-clause-text
returns-clause-text c = λ about plan. text_same (played_text about plan)

pub returns-clause-legal : goal.returns-clause-legal
returns-clause-legal c = λ named about plan fits rule numbered. played_legal_in about plan (ap (λ s. s.places) fits) rule numbered named

pub returns-clause-passed : goal.returns-clause-passed
returns-clause-passed c = λ named head about plan fits rule numbered. played_used about plan (ap (λ s. s.places) fits) rule numbered named head
