use Rattle.std.proofs.Common.{sym, ap, ◌∙◌}
use Rattle.std.specs.Prelude.{fold}
use Rattle.rc_play_spec.specs.Table.{put_top}
use Rattle.rc_undo.specs.Undo.{Kept, edited}
use Rattle.rc_undo.specs.Past.{kept_of}
use Rattle.rc_undo.specs.PastSeen.{past_seen}
use Rattle.rc_undo.proofs.PastLemmas.{AreNoted, unnoted_edit}
use Rattle.rc_undo.proofs.KeepsLemmas.{keeps_edit}
use Rattle.rc_undo.proofs.board.Board.put_all_top.Goals as goal

kept : (c : goal.After-put_all_top) →
    AreNoted (past_seen c.self.inside.past) c.put_all_top.new.self
    (edited (kept_of (past_seen c.self.inside.past) c.self.inside.table)
    (fold (λ table id. put_top c.self.inside.table.shape id c.args.loc table) c.self.inside.table.table c.args.ids.now))
kept c =
    unnoted_edit (past_seen c.self.inside.past) c.self.inside.table c.put_all_top.new.self _ (sym c.notes.ensures ∙ c.if-notes.false)
    c.put_all_top.ensures c.self.invariant

pub invariant_of-self : goal.invariant_of-self
invariant_of-self c = (kept c).0

pub returns-clause-leads : goal.returns-clause-leads
returns-clause-leads c =
    ap (λ (k : Kept). k.laid)
    ((kept c).1
    ∙ ap (λ (k : Kept). edited k (fold (λ table id. put_top k.laid.shape id c.args.loc table) k.laid.table c.args.ids.now)) c.self.view_is)

pub returns-clause-keeps : goal.returns-clause-keeps
returns-clause-keeps c =
    keeps_edit _ _ _
    ((kept c).1
    ∙ ap (λ (k : Kept). edited k (fold (λ table id. put_top k.laid.shape id c.args.loc table) k.laid.table c.args.ids.now)) c.self.view_is)
