use Rattle.std.proofs.Common.{sym, ap, ◌∙◌, subst}
use Rattle.rc_play_spec.specs.Bound.{HoldsReferences}
use Rattle.rc_table.specs.Restored.{taken_at}
use Rattle.rc_undo.specs.Undo.{Kept, forgotten, edited}
use Rattle.rc_undo.specs.Past.{kept_of}
use Rattle.rc_undo.specs.PastSeen.{past_seen}
use Rattle.rc_undo.proofs.UndoLemmas.{forgotten_back}
use Rattle.rc_undo.proofs.PastLemmas.{AreNoted, noted_edit}
use Rattle.rc_undo.proofs.KeepsLemmas.{keeps_edit}
use Rattle.rc_undo.proofs.board.Board.note_and_forget.Goals as goal

kept : (c : goal.After-take_reference) →
    AreNoted (past_seen c.note.new.self) c.take_reference.new.self
    (edited (kept_of (past_seen c.self.inside.past) c.self.inside.table) (taken_at c.args.loc c.in-Some.place c.self.inside.table.table))
kept c =
    let now = c.self.inside.table in
    let holds = subst (λ (k : Kept). HoldsReferences k.laid.shape c.args.loc) (sym c.self.view_is) c.requires.loc in
    noted_edit (forgotten c.id_at-old.result c.args.loc c.in-Some.place) (past_seen c.self.inside.past) (past_seen c.note.new.self) now
    c.take_reference.new.self (taken_at c.args.loc c.in-Some.place now.table) c.in-Ok.ensures.noted c.take_reference.ensures
    (forgotten_back now.shape now.table c.id_at-old.result c.args.loc c.in-Some.place c.shape-sound.ensures.sound holds c.in-Some.ensures.0 c.id_at-old.ensures)
    (holds, tt) c.shape-sound.ensures.sound c.self.invariant

pub invariant_of-self-2 : goal.invariant_of-self-2
invariant_of-self-2 c = (kept c).0

pub returns-clause-keeps : goal.returns-clause-keeps
returns-clause-keeps c = keeps_edit _ _ _ ((kept c).1 ∙ ap (λ (k : Kept). edited k (taken_at c.args.loc c.in-Some.place k.laid.table)) c.self.view_is)
