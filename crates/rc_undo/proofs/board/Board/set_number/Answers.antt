use Rattle.std.proofs.Common.{sym, ap, ◌∙◌, rules, SFits, w64}
use Rattle.std.proofs.lemmas.Int.{to_z-of_z}
use Rattle.rc_table.specs.Laid.{relaid}
use Rattle.rc_play_spec.specs.Table.{set_number}
use Rattle.rc_undo.specs.Undo.{Kept, edited}
use Rattle.rc_undo.specs.Past.{kept_of}
use Rattle.rc_undo.specs.PastSeen.{past_seen}
use Rattle.rc_undo.proofs.PastLemmas.{AreNoted, unnoted_edit}
use Rattle.rc_undo.proofs.KeepsLemmas.{keeps_edit}
use Rattle.rc_undo.proofs.board.Board.set_number.Goals as goal

kept : (c : goal.After-set_number) →
    AreNoted (past_seen c.self.inside.past) c.set_number.new.self
    (edited (kept_of (past_seen c.self.inside.past) c.self.inside.table) (set_number c.args.num c.args.value c.self.inside.table.table))
kept c =
    let now = c.self.inside.table in
    let fits : SFits w64 c.args.value = search rules in
    unnoted_edit (past_seen c.self.inside.past) now c.set_number.new.self _ (sym c.notes.ensures ∙ c.if-notes.false)
    (c.set_number.ensures ∙ ap (λ v. relaid now (set_number c.args.num v now.table)) (to_z-of_z w64 c.args.value fits))
    c.self.invariant

pub invariant_of-self : goal.invariant_of-self
invariant_of-self c = (kept c).0

pub returns-clause-leads : goal.returns-clause-leads
returns-clause-leads c = (kept c).1 ∙ ap (λ (k : Kept). edited k (set_number c.args.num c.args.value k.laid.table)) c.self.view_is

pub returns-clause-keeps : goal.returns-clause-keeps
returns-clause-keeps c = keeps_edit _ _ _ (returns-clause-leads c)
