use Rattle.std.proofs.Common.{ap}
use Rattle.rc_play_spec.proofs.Seen.{menu_of_view, equal_views_equal_menus}
use Rattle.rc_play_spec.proofs.laws.menus.menus_are_functions_of_views.Goals as goal

pub returns-clause-of_view : goal.returns-clause-of_view
returns-clause-of_view c = λ sheet shape table control site fits rule. menu_of_view sheet shape table control (ap (λ s. s.places) fits) site rule

pub returns-clause-same : goal.returns-clause-same
returns-clause-same c = λ sheet shape table table' control control' site fits rule e.
    equal_views_equal_menus sheet shape table table' control control' site (ap (λ s. s.places) fits) rule e
