use Rattle.rc_part_tests.proofs.book.workers_look_up_what_their_matches_ask.Given as goal

abbrev pub ghosts-expect_book : goal.ghosts-expect_book
ghosts-expect_book g a =
    record {
      about = a.about.now.value;
      capacity = 65536;
      lanes = a.fresh.looks.parts;
      looks = a.fresh.looks.name;
      hits = a.fresh.hits.name;
      keeps = a.fresh.keeps.name;
    }
