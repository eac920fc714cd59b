use Rattle.rc_part_tests.proofs.flat.expect_alike.Given as goal

abbrev pub ghosts-watch_match : goal.ghosts-watch_match
ghosts-watch_match g a = record { name = a.blank.name; parts = a.blank.parts }
