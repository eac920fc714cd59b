use Rattle.std.proofs.Common.{◌<◌, length, sym, ap, ◌∙◌, subst}
use Rattle.rc_play_spec.specs.Table.{set_marks}
use Rattle.rc_table.specs.Marks.{seats_in}
use Rattle.rc_undo.specs.Undo.{Kept, marked, edited}
use Rattle.rc_undo.specs.Past.{kept_of}
use Rattle.rc_undo.specs.PastSeen.{past_seen}
use Rattle.rc_undo.proofs.UndoLemmas.{marks_back, may_mark}
use Rattle.rc_undo.proofs.PastLemmas.{AreNoted, noted_edit}
use Rattle.rc_undo.proofs.KeepsLemmas.{keeps_edit}
use Rattle.rc_undo.proofs.board.Board.set_marks.Goals as goal

kept : (c : goal.After-set_marks) →
    AreNoted (past_seen c.note.new.self) c.set_marks.new.self
    (edited (kept_of (past_seen c.self.inside.past) c.self.inside.table) (set_marks c.args.id (seats_in c.args.seats) c.self.inside.table.table))
kept c =
    let now = c.self.inside.table in
    let id = c.args.id in
    let card = subst (λ (k : Kept). id < length k.laid.shape.faces) (sym c.self.view_is) c.requires.card in
    noted_edit (marked id c.marks.result) (past_seen c.self.inside.past) (past_seen c.note.new.self) now c.set_marks.new.self
    (set_marks id (seats_in c.args.seats) now.table) c.in-Ok.ensures.noted c.set_marks.ensures
    (marks_back now.table id c.marks.result (seats_in c.args.seats) c.marks.ensures)
    (tt, may_mark now.shape now.table id c.marks.result c.shape-sound.ensures.sound card c.marks.ensures)
    c.shape-sound.ensures.sound c.self.invariant

pub invariant_of-self-2 : goal.invariant_of-self-2
invariant_of-self-2 c = (kept c).0

pub returns-clause-leads : goal.returns-clause-leads
returns-clause-leads c = (kept c).1 ∙ ap (λ (k : Kept). edited k (set_marks c.args.id (seats_in c.args.seats) k.laid.table)) c.self.view_is

pub returns-clause-keeps : goal.returns-clause-keeps
returns-clause-keeps c = keeps_edit _ _ _ (returns-clause-leads c)
