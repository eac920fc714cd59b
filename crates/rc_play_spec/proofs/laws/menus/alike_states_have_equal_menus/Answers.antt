use Rattle.std.proofs.Common.{ap}
use Rattle.rc_play_spec.specs.Owners.{mover}
use Rattle.rc_play_spec.proofs.Seen.{equal_views_equal_menus}
use Rattle.rc_play_spec.proofs.Alike.{equal_views}
use Rattle.rc_play_spec.proofs.laws.menus.alike_states_have_equal_menus.Goals as goal

pub returns : goal.returns
returns c = λ sheet shape table table' control control' site fits rule alike.
    equal_views_equal_menus sheet shape table table' control control' site (ap (λ s. s.places) fits) rule
    (equal_views shape (mover sheet control.frames) table table' control control' alike)
