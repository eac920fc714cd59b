use Rattle.rc_house.proofs.rival_matches.write_rivals.Given as goal

abbrev pub ghosts-counted_records : goal.ghosts-counted_records
ghosts-counted_records g a = record { name = a.blank.name; parts = a.blank.parts }
