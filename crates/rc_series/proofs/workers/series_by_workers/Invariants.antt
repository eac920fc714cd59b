use Rattle.rc_series.proofs.workers.series_by_workers.Given as goal

abbrev pub ghosts-play_plan : goal.ghosts-play_plan
ghosts-play_plan g a =
    record {
      about = a.about.now.value;
      capacity = a.capacity;
      lanes = a.fresh.looks.parts;
      looks = a.fresh.looks.name;
      hits = a.fresh.hits.name;
      keeps = a.fresh.keeps.name;
    }
