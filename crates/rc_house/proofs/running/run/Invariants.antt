use Rattle.rc_house.proofs.running.run.Given as goal

abbrev pub ghosts-answer_from : goal.ghosts-answer_from
ghosts-answer_from g a = record { name = a.blank.name; parts = a.blank.parts }
