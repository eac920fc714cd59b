use Rattle.rc_search_tests.proofs.pruning.a_search_of_two_teams_leaves_items_out.Given as goal

abbrev pub ghosts-found_by_both : goal.ghosts-found_by_both
ghosts-found_by_both g a = record { name = a.blank.name; parts = a.blank.parts }
