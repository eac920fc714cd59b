use Rattle.std.proofs.Common.{ap}
use Rattle.rc_play_spec.proofs.Redrawn.{redrawn-of, redrawn-menu}
use Rattle.rc_play_spec.proofs.laws.redraws.redrawn_tables_keep_the_view.Goals as goal

pub returns-clause-view : goal.returns-clause-view
returns-clause-view c = λ shape view key of. (redrawn-of shape view key of).1

pub returns-clause-menu : goal.returns-clause-menu
returns-clause-menu c = λ sheet shape view key site fits rule of moves.
    redrawn-menu sheet shape view key site (ap (λ s. s.places) fits) rule of moves
