use Rattle.rc_search.proofs.stand.stand_for.Goals as goal

pub returns-then-item-gt0-clause-at : goal.returns-then-item-gt0-clause-at
returns-then-item-gt0-clause-at c = λ config kept same. c.go_back.ensures.at config (kept c.if-item-gt0.true)
