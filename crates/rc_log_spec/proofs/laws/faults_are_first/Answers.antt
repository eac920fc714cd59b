use Rattle.rc_play_spec.proofs.LineFaults.{fault_first, fault_only}
use Rattle.rc_log_spec.proofs.Views.{is_grammar}
use Rattle.rc_log_spec.proofs.laws.faults_are_first.Goals as goal

pub returns-clause-only : goal.returns-clause-only
returns-clause-only c = λ shape bytes n small e. fault_first (is_grammar shape small) bytes n e

pub returns-clause-again : goal.returns-clause-again
returns-clause-again c = λ shape bytes n small f. fault_only (is_grammar shape small) bytes n f
