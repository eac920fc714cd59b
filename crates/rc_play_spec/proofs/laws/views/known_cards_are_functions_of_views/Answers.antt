use Rattle.std.proofs.Common.{sym, ap, ◌∙◌}
use Rattle.rc_play_spec.specs.Shape.{Shape}
use Rattle.rc_play_spec.specs.View.{view_of, view_scene}
use Rattle.rc_play_spec.specs.Value.{known_there}
use Rattle.rc_play_spec.proofs.Seen.{knows}
use Rattle.rc_play_spec.proofs.Alike.{equal_views}
use Rattle.rc_play_spec.specs.Owners.{mover}
use Rattle.rc_play_spec.proofs.laws.views.known_cards_are_functions_of_views.Goals as goal

pub returns-clause-of_view : goal.returns-clause-of_view
returns-clause-of_view c = λ sheet shape table control place fits. knows sheet shape table control (ap (λ (s : Shape). s.places) fits) place

pub returns-clause-same : goal.returns-clause-same
returns-clause-same c = λ sheet shape table table' control control' place fits alike.
    let e = equal_views shape (mover sheet control.frames) table table' control control' alike in
    sym (knows sheet shape table control (ap (λ (s : Shape). s.places) fits) place)
    ∙ ap (λ view. known_there (view_scene sheet shape view) place)
    (e ∙ ap (λ c. view_of shape (mover sheet c.frames) table' control') (ap (λ view. view.control) e))
    ∙ knows sheet shape table' control' (ap (λ (s : Shape). s.places) fits) place
