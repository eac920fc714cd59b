use Rattle.std.proofs.Common.{sym, ap, ◌∙◌, subst}
use Rattle.rc_play_spec.specs.Bound.{HoldsReferences}
use Rattle.rc_play_spec.specs.Table.{remember_top}
use Rattle.rc_undo.specs.Undo.{Kept, noted, edited}
use Rattle.rc_undo.specs.Past.{kept_of}
use Rattle.rc_undo.specs.PastSeen.{past_seen}
use Rattle.rc_undo.proofs.UndoLemmas.{remembered_top_back}
use Rattle.rc_undo.proofs.PastLemmas.{AreNoted, noted_edit}
use Rattle.rc_undo.proofs.KeepsLemmas.{keeps_edit}
use Rattle.rc_undo.proofs.board.Board.note_and_remember_top.Goals as goal

kept : (c : goal.After-note_top) →
    AreNoted (past_seen c.note.new.self) c.note_top.new.self
    (edited (kept_of (past_seen c.self.inside.past) c.self.inside.table) (remember_top c.self.inside.table.shape c.args.id c.args.loc c.self.inside.table.table))
kept c =
    let now = c.self.inside.table in
    let holds = subst (λ (k : Kept). HoldsReferences k.laid.shape c.args.loc) (sym c.self.view_is) c.requires.loc in
    noted_edit (noted c.args.loc c.count_of-at.result) (past_seen c.self.inside.past) (past_seen c.note.new.self) now c.note_top.new.self
    (remember_top now.shape c.args.id c.args.loc now.table) c.in-Ok.ensures.noted c.note_top.ensures
    (remembered_top_back now.shape now.table c.args.id c.args.loc c.count_of-at.result c.shape-sound.ensures.sound holds (sym c.has_room.ensures ∙ c.if-not-has_room.false)
    c.count_of-at.ensures)
    (holds, tt) c.shape-sound.ensures.sound c.self.invariant

pub invariant_of-self-2 : goal.invariant_of-self-2
invariant_of-self-2 c = (kept c).0

pub returns-clause-keeps : goal.returns-clause-keeps
returns-clause-keeps c = keeps_edit _ _ _ ((kept c).1 ∙ ap (λ (k : Kept). edited k (remember_top k.laid.shape c.args.id c.args.loc k.laid.table)) c.self.view_is)
