use Rattle.rc_part_tests.proofs.forgetting.expect_same_matches.Given as goal

abbrev pub ghosts-play_with : goal.ghosts-play_with
ghosts-play_with g a = record { name = a.blank.name; parts = a.blank.parts }
