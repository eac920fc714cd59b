use Rattle.std.proofs.Common.{length, ap, ◌∙◌}
use Rattle.rc_undo.specs.Undo.{Kept}
use Rattle.rc_undo.specs.PastSeen.{past_seen}
use Rattle.rc_undo.proofs.PastLemmas.{edits_long}
use Rattle.rc_undo.proofs.board.Board.edits.Goals as goal

pub returns : goal.returns
returns c =
    c.edits.ensures ∙ edits_long (past_seen c.self.inside.past) c.self.inside.table ∙ ap (λ (k : Kept). length k.before) c.self.view_is
