use Rattle.rc_log_spec.specs.Log.{IsLog, log_lines, text_of}
use Rattle.rc_log_spec.specs.Reading.{grammar}
use Rattle.rc_play_spec.proofs.LineGrammars.{read_only}
use Rattle.rc_log_spec.proofs.Views.{is_grammar, log_read}
use Rattle.rc_log_spec.proofs.laws.logs_are_read.Goals as goal

pub returns-clause-again : goal.returns-clause-again
returns-clause-again c = log_read

pub returns-clause-only : goal.returns-clause-only
returns-clause-only c = λ shape bytes t small e. let is = is_grammar shape small in read_only (grammar shape) (IsLog shape) text_of log_lines is.spelled is.only bytes t e
