use Rattle.std.proofs.Common.{map, string_bytes, arith}
use Rattle.rc_house.proofs.WordLemmas.{none_weaker, four_words, not_spelled}
use Rattle.rc_house.proofs.rival.rival_of.Goals as goal

pub returns-in-len4-clause-none : goal.returns-in-len4-clause-none
returns-in-len4-clause-none c =
    none_weaker c.rival_by.result
    (not_spelled (map string_bytes c.args.words.now) _ _ _ _
    (four_words c.args.words.now c.strategy-item.result c.depth-item.result c.rounds-item.result c.key-item.result
    (omega (arith, c.in-len4.len_at_least, c.in-len4.len_below)) c.strategy-item.is c.depth-item.is c.rounds-item.is c.key-item.is))
    c.rival_by.ensures.none
