use Rattle.std.proofs.Common.{◌<◌, length, sym, ap, ◌∙◌, subst}
use Rattle.rc_play_spec.specs.Bound.{HoldsCards}
use Rattle.rc_play_spec.specs.Table.{put_bottom}
use Rattle.rc_undo.specs.Undo.{Kept, moved, edited}
use Rattle.rc_undo.specs.Past.{kept_of}
use Rattle.rc_undo.specs.PastSeen.{past_seen}
use Rattle.rc_undo.proofs.UndoLemmas.{bottom_back, from_there}
use Rattle.rc_undo.proofs.PastLemmas.{AreNoted, noted_edit}
use Rattle.rc_undo.proofs.KeepsLemmas.{keeps_edit}
use Rattle.rc_undo.proofs.board.Board.put_bottom.Goals as goal

kept : (c : goal.After-put_bottom) →
    AreNoted (past_seen c.note.new.self) c.put_bottom.new.self
    (edited (kept_of (past_seen c.self.inside.past) c.self.inside.table) (put_bottom c.self.inside.table.shape c.args.id c.args.loc c.self.inside.table.table))
kept c =
    let now = c.self.inside.table in
    let card = subst (λ (k : Kept). c.args.id < length k.laid.shape.faces) (sym c.self.view_is) c.requires.card in
    let holds = subst (λ (k : Kept). HoldsCards k.laid.shape c.args.loc) (sym c.self.view_is) c.requires.loc in
    let back = bottom_back now.shape now.table c.args.id c.args.loc c.marks.result c.shape-sound.ensures.sound card holds c.marks.ensures c.place_of-from.result c.place_of-from.ensures.place in
    noted_edit (moved c.place_of-from.result.0 c.place_of-from.result.1 c.args.loc 0 c.marks.result) (past_seen c.self.inside.past) (past_seen c.note.new.self)
    now c.put_bottom.new.self (put_bottom now.shape c.args.id c.args.loc now.table) c.in-Ok.ensures.noted c.put_bottom.ensures
    back.0
    (from_there now.shape now.table c.args.id c.place_of-from.result c.shape-sound.ensures.sound card c.place_of-from.ensures.place, back.1)
    c.shape-sound.ensures.sound c.self.invariant

pub invariant_of-self-2 : goal.invariant_of-self-2
invariant_of-self-2 c = (kept c).0

pub returns-clause-leads : goal.returns-clause-leads
returns-clause-leads c = (kept c).1 ∙ ap (λ (k : Kept). edited k (put_bottom k.laid.shape c.args.id c.args.loc k.laid.table)) c.self.view_is

pub returns-clause-keeps : goal.returns-clause-keeps
returns-clause-keeps c = keeps_edit _ _ _ (returns-clause-leads c)
