use Rattle.rc_play_spec.proofs.PlayLemmas.{match_recorded}
use Rattle.rc_play_spec.proofs.MatchLemmas.{all_recorded}
use Rattle.rc_play_spec.proofs.laws.matches.every_match_has_a_record.Goals as goal

pub returns-clause-record_there : goal.returns-clause-record_there
returns-clause-record_there c = match_recorded

pub returns-clause-each : goal.returns-clause-each
returns-clause-each c = all_recorded
