use Rattle.rc_part_tests.proofs.flat.each_playout_of_a_match_goes_back_to_its_decision.Given as goal

abbrev pub ghosts-watch_match : goal.ghosts-watch_match
ghosts-watch_match g a = record { name = a.blank.name; parts = a.blank.parts }
