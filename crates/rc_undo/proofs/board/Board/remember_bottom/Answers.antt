use Rattle.std.proofs.Common.{sym, ap, ◌∙◌, subst}
use Rattle.rc_play_spec.specs.Bound.{HoldsReferences}
use Rattle.rc_play_spec.specs.Table.{remember_bottom}
use Rattle.rc_undo.specs.Undo.{Kept, noted, edited}
use Rattle.rc_undo.specs.Past.{kept_of}
use Rattle.rc_undo.specs.PastSeen.{past_seen}
use Rattle.rc_undo.proofs.UndoLemmas.{remembered_bottom_back}
use Rattle.rc_undo.proofs.PastLemmas.{AreNoted, noted_edit}
use Rattle.rc_undo.proofs.KeepsLemmas.{keeps_edit}
use Rattle.rc_undo.proofs.board.Board.remember_bottom.Goals as goal

kept : (c : goal.After-note_bottom) →
    AreNoted (past_seen c.note.new.self) c.note_bottom.new.self
    (edited (kept_of (past_seen c.self.inside.past) c.self.inside.table) (remember_bottom c.self.inside.table.shape c.args.id c.args.loc c.self.inside.table.table))
kept c =
    let now = c.self.inside.table in
    let holds = subst (λ (k : Kept). HoldsReferences k.laid.shape c.args.loc) (sym c.self.view_is) c.requires.loc in
    noted_edit (noted c.args.loc 0) (past_seen c.self.inside.past) (past_seen c.note.new.self) now c.note_bottom.new.self
    (remember_bottom now.shape c.args.id c.args.loc now.table) c.in-Ok.ensures.noted c.note_bottom.ensures
    (remembered_bottom_back now.shape now.table c.args.id c.args.loc c.shape-sound.ensures.sound holds (sym c.has_room.ensures ∙ c.if-not-has_room.false))
    (holds, tt) c.shape-sound.ensures.sound c.self.invariant

pub invariant_of-self-2 : goal.invariant_of-self-2
invariant_of-self-2 c = (kept c).0

pub returns-clause-keeps : goal.returns-clause-keeps
returns-clause-keeps c = keeps_edit _ _ _ ((kept c).1 ∙ ap (λ (k : Kept). edited k (remember_bottom k.laid.shape c.args.id c.args.loc k.laid.table)) c.self.view_is)
