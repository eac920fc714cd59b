use Rattle.rc_log_spec.proofs.Matches.{match_log_is_read}
use Rattle.rc_log_spec.proofs.laws.logs_of_matches_are_read.Goals as goal

pub returns : goal.returns
returns c = match_log_is_read
