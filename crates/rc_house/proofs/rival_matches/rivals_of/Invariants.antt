use Rattle.rc_house.proofs.rival_matches.rivals_of.Given as goal

abbrev pub ghosts-write_rivals : goal.ghosts-write_rivals
ghosts-write_rivals a =
    record {
      about = a.about.now.value;
      capacity = 1024;
      lanes = a.fresh.looks.parts;
      looks = a.fresh.looks.name;
      hits = a.fresh.hits.name;
      keeps = a.fresh.keeps.name;
    }
