use Rattle.std.proofs.Common.{◌≡◌, ap, ◌∙◌, rules, SFits, w64}
use mir.Val.{to_z, of_z}
use Rattle.std.proofs.lemmas.Int.{to_z-of_z}
use Rattle.rc_table.specs.Laid.{relaid}
use Rattle.rc_play_spec.specs.Table.{set_number}
use Rattle.rc_undo.specs.Undo.{Kept, changed, undone, edited}
use Rattle.rc_undo.specs.Past.{noted_in, kept_of}
use Rattle.rc_undo.specs.PastSeen.{past_seen}
use Rattle.rc_undo.proofs.UndoLemmas.{number_back}
use Rattle.rc_undo.proofs.PastLemmas.{AreNoted, noted_edit}
use Rattle.rc_undo.proofs.KeepsLemmas.{keeps_edit}
use Rattle.rc_undo.proofs.board.Board.note_and_set.Goals as goal

set_is : (c : goal.After-set_number) → c.set_number.new.self ≡ relaid c.self.inside.table (set_number c.args.num c.args.value c.self.inside.table.table)
set_is c =
    let fits : SFits w64 c.args.value = search rules in
    c.set_number.ensures ∙ ap (λ v. relaid c.self.inside.table (set_number c.args.num v c.self.inside.table.table)) (to_z-of_z w64 c.args.value fits)

old_is : (c : goal.After-set_number) → to_z w64 (of_z w64 c.number.result) ≡ c.number.result
old_is c =
    let fits : SFits w64 c.number.result = search rules in
    to_z-of_z w64 c.number.result fits

kept : (c : goal.After-set_number) →
    AreNoted (past_seen c.note.new.self) c.set_number.new.self
    (edited (kept_of (past_seen c.self.inside.past) c.self.inside.table) (set_number c.args.num c.args.value c.self.inside.table.table))
kept c =
    let now = c.self.inside.table in
    noted_edit (changed c.args.num c.number.result) (past_seen c.self.inside.past) (past_seen c.note.new.self) now c.set_number.new.self
    (set_number c.args.num c.args.value now.table)
    (c.in-Ok.ensures.noted ∙ ap (λ e. noted_in e (past_seen c.self.inside.past)) (c.changed_entry-entry.ensures ∙ ap (λ v. changed c.args.num v) (old_is c)))
    (set_is c)
    (ap (λ v. undone (changed c.args.num v) (set_number c.args.num c.args.value now.table)) c.number.ensures.number ∙ number_back now.table c.args.num c.args.value)
    (c.number.ensures.clamped, tt) c.shape-sound.ensures.sound c.self.invariant

pub invariant_of-self-2 : goal.invariant_of-self-2
invariant_of-self-2 c = (kept c).0

pub returns-clause-leads : goal.returns-clause-leads
returns-clause-leads c = (kept c).1 ∙ ap (λ (k : Kept). edited k (set_number c.args.num c.args.value k.laid.table)) c.self.view_is

pub returns-clause-keeps : goal.returns-clause-keeps
returns-clause-keeps c = keeps_edit _ _ _ (returns-clause-leads c)
