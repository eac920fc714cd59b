use Rattle.rc_log_spec.proofs.Views.{views_have, log_has, tell_views, views_tell}
use Rattle.rc_log_spec.proofs.laws.logs_tell_views.Goals as goal

pub returns-clause-has : goal.returns-clause-has
returns-clause-has c = views_have

pub returns-clause-of : goal.returns-clause-of
returns-clause-of c = log_has

pub returns-clause-tell : goal.returns-clause-tell
returns-clause-tell c =
    λ shape seat number views views' small less le all all'. (tell_views shape seat number views views' small less le all all', views_tell seat number views views')
