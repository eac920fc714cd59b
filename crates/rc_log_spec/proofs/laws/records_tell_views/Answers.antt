use Rattle.rc_log_spec.proofs.Matches.{record_is_play, record_tells_views}
use Rattle.rc_log_spec.proofs.laws.records_tell_views.Goals as goal

pub returns-clause-plays : goal.returns-clause-plays
returns-clause-plays c = λ about plan m r watchable is. record_is_play about plan m watchable r is

pub returns-clause-views : goal.returns-clause-views
returns-clause-views c = record_tells_views
