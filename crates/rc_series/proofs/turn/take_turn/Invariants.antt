use Rattle.rc_series.proofs.turn.take_turn.Given as goal

abbrev pub ghosts-counted_turn : goal.ghosts-counted_turn
ghosts-counted_turn g a = record { name = a.blank.name; parts = a.blank.parts }
