use Rattle.rc_house.proofs.watched_match.watched_log.Given as goal

abbrev pub ghosts-watched_alone : goal.ghosts-watched_alone
ghosts-watched_alone a = record { name = a.blank.name; parts = a.blank.parts }
