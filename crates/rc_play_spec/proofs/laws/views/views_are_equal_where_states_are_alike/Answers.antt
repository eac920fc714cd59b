use Rattle.rc_play_spec.proofs.Alike.{equal_views, alike_states}
use Rattle.rc_play_spec.proofs.laws.views.views_are_equal_where_states_are_alike.Goals as goal

pub returns : goal.returns
returns c = λ shape seat table table' control control'.
    (equal_views shape seat table table' control control', alike_states shape seat table table' control control')
