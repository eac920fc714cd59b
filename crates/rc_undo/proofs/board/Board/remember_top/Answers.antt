use Rattle.std.proofs.Common.{sym, ap, ◌∙◌}
use Rattle.rc_play_spec.specs.Table.{remember_top}
use Rattle.rc_undo.specs.Undo.{Kept, edited}
use Rattle.rc_undo.specs.Past.{kept_of}
use Rattle.rc_undo.specs.PastSeen.{past_seen}
use Rattle.rc_undo.proofs.PastLemmas.{AreNoted, unnoted_edit}
use Rattle.rc_undo.proofs.KeepsLemmas.{keeps_edit}
use Rattle.rc_undo.proofs.board.Board.remember_top.Goals as goal

kept : (c : goal.After-remember_top) →
    AreNoted (past_seen c.self.inside.past) c.remember_top.new.self
    (edited (kept_of (past_seen c.self.inside.past) c.self.inside.table) (remember_top c.self.inside.table.shape c.args.id c.args.loc c.self.inside.table.table))
kept c =
    unnoted_edit (past_seen c.self.inside.past) c.self.inside.table c.remember_top.new.self _ (sym c.notes.ensures ∙ c.if-notes.false)
    c.remember_top.ensures c.self.invariant

pub invariant_of-self : goal.invariant_of-self
invariant_of-self c = (kept c).0

pub returns-clause-keeps : goal.returns-clause-keeps
returns-clause-keeps c = keeps_edit _ _ _ ((kept c).1 ∙ ap (λ (k : Kept). edited k (remember_top k.laid.shape c.args.id c.args.loc k.laid.table)) c.self.view_is)
