use Rattle.rc_log_spec.proofs.Matches.{choices_have_views, match_views_count}
use Rattle.rc_log_spec.proofs.laws.views_of_matches_count.Goals as goal

pub returns-clause-each : goal.returns-clause-each
returns-clause-each c = choices_have_views

pub returns-clause-all : goal.returns-clause-all
returns-clause-all c = λ about plan m seat watchable. match_views_count about plan m seat watchable
