use Rattle.rc_flat.proofs.MarkLemmas.{keeps_mark}
use Rattle.rc_games.proofs.returns.goes_back.Goals as goal

pub undo_to-requires : goal.undo_to-requires
undo_to-requires c =
    let marked = c.stand_at_decision.new.flat in
    (marked.config, keeps_mark marked c.play_item.new.flat c.mark-mark.result marked.config c.play_item.ensures c.mark-mark.ensures.now)
