use Rattle.rc_play_spec.proofs.LineFaults.{fault_first, fault_only}
use Rattle.rc_play_spec.proofs.Readings.{is_grammar}
use Rattle.rc_play_spec.proofs.texts.faults_are_first.Goals as goal

pub returns-clause-only : goal.returns-clause-only
returns-clause-only c = λ f bytes n good e. fault_first (is_grammar f good) bytes n e

pub returns-clause-again : goal.returns-clause-again
returns-clause-again c = λ f bytes n good x. fault_only (is_grammar f good) bytes n x
