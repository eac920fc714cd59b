use Rattle.rc_play_spec.specs.HouseText.{text_in, text_lines, IsText}
use Rattle.rc_play_spec.specs.Reading.{grammar}
use Rattle.rc_play_spec.proofs.LineGrammars.{text_read, read_only}
use Rattle.rc_play_spec.proofs.SameTexts.{text_spelled}
use Rattle.rc_play_spec.proofs.Readings.{is_grammar, text_only}
use Rattle.rc_play_spec.proofs.texts.texts_are_read.Goals as goal

pub returns-clause-again : goal.returns-clause-again
returns-clause-again c = λ f n good is. text_read (is_grammar f good) n is

pub returns-clause-only : goal.returns-clause-only
returns-clause-only c = λ f bytes n e. read_only (grammar f) (IsText f.named) (text_in f) (text_lines f) (text_spelled f) (text_only f) bytes n e
