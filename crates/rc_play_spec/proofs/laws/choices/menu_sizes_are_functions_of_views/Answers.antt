use Rattle.std.proofs.Common.{ap}
use Rattle.rc_play_spec.proofs.ChoiceLemmas.{size_of_view, size_redrawn}
use Rattle.rc_play_spec.proofs.laws.choices.menu_sizes_are_functions_of_views.Goals as goal

pub returns-clause-size : goal.returns-clause-size
returns-clause-size c = λ about site table control fits rule stands. size_of_view about site table control (ap (λ s. s.places) fits) rule stands

pub returns-clause-redrawn : goal.returns-clause-redrawn
returns-clause-redrawn c = λ about site view key fits rule of moves stands.
    size_redrawn about site view key (ap (λ s. s.places) fits) rule of moves stands
