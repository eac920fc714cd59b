use Rattle.std.proofs.Common.{sym, ap, ◌∙◌}
use Rattle.rc_play_spec.specs.Table.{put_top}
use Rattle.rc_undo.specs.Undo.{Kept, edited}
use Rattle.rc_undo.specs.Past.{kept_of}
use Rattle.rc_undo.specs.PastSeen.{past_seen}
use Rattle.rc_undo.proofs.PastLemmas.{AreNoted, unnoted_edit}
use Rattle.rc_undo.proofs.KeepsLemmas.{keeps_edit}
use Rattle.rc_undo.proofs.board.Board.put_top.Goals as goal

kept : (c : goal.After-put_top_from) →
    AreNoted (past_seen c.self.inside.past) c.put_top_from.new.self
    (edited (kept_of (past_seen c.self.inside.past) c.self.inside.table) (put_top c.self.inside.table.shape c.args.id c.args.loc c.self.inside.table.table))
kept c =
    unnoted_edit (past_seen c.self.inside.past) c.self.inside.table c.put_top_from.new.self _ (sym c.notes.ensures ∙ c.if-notes.false)
    c.put_top_from.ensures c.self.invariant

pub invariant_of-self : goal.invariant_of-self
invariant_of-self c = (kept c).0

pub returns-clause-leads : goal.returns-clause-leads
returns-clause-leads c = (kept c).1 ∙ ap (λ (k : Kept). edited k (put_top k.laid.shape c.args.id c.args.loc k.laid.table)) c.self.view_is

pub returns-clause-keeps : goal.returns-clause-keeps
returns-clause-keeps c = keeps_edit _ _ _ (returns-clause-leads c)
