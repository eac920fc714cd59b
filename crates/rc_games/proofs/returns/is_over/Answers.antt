use Rattle.rc_flat.proofs.MarkLemmas.{keeps_then}
use Rattle.rc_games.proofs.returns.is_over.Goals as goal

pub returns-in_err-take_next : goal.returns-in_err-take_next
returns-in_err-take_next c = keeps_then _ _ _ c.advance.ensures.keeps c.take_next.ensures

pub returns : goal.returns
returns c = keeps_then _ _ _ c.advance.ensures.keeps c.take_next.ensures
