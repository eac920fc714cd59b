use Rattle.std.proofs.Common.{◌≡◌, ℕ, ◌<◌, length, slice_index, [], sym, ap, ◌∙◌, subst}
use Rattle.std.specs.Prelude.{All}
use Rattle.std.proofs.lemmas.Option.{slice_get_within}
use Rattle.rc_play_spec.specs.Bound.{HoldsCards}
use Rattle.rc_play_spec.specs.Table.{list_at, loc_of, marks_of}
use Rattle.rc_table.specs.Shape.{IsShape}
use Rattle.rc_table.specs.Runs.{put_each}
use Rattle.rc_undo.specs.Sides.{end_of}
use Rattle.rc_undo.specs.Undo.{Kept, gathered, edited}
use Rattle.rc_undo.specs.Past.{kept_of}
use Rattle.rc_undo.specs.PastSeen.{past_seen}
use Rattle.rc_undo.proofs.GatherLemmas.{gathered_back, from_is}
use Rattle.rc_undo.proofs.PastLemmas.{AreNoted, noted_edit}
use Rattle.rc_undo.proofs.KeepsLemmas.{keeps_edit}
use Rattle.rc_undo.proofs.board.Board.gather.Goals as goal

kept : (c : goal.After-put_on_table) →
    AreNoted (past_seen c.note_lists.new.self) c.put_on_table.new.table
    (edited (kept_of (past_seen c.self.inside.past) c.self.inside.table)
    (put_each c.self.inside.table.shape (end_of c.args.side) c.args.loc c.args.ids.now c.self.inside.table.table))
kept c =
    let now = c.self.inside.table in
    let ids = c.args.ids.now in
    let from = c.args.from in
    let loc = c.args.loc in
    let end = end_of c.args.side in
    let limits = subst IsShape (c.shape.ensures.shape) c.players-limits.ensures.limits in
    let sound = c.shape-sound.ensures.sound in
    let cards = subst (λ (k : Kept). All (λ id. id < length k.laid.shape.faces) ids) (sym c.self.view_is) c.requires.cards in
    let holds = subst (λ (k : Kept). HoldsCards k.laid.shape loc) (sym c.self.view_is) c.requires.loc in
    let are = subst (λ (k : Kept). All (λ id. loc_of k.laid.shape k.laid.table id ≡ from) ids) (sym c.self.view_is) c.requires.from in
    let unmarked = subst (λ (k : Kept). (i : ℕ) → i < length ids → marks_of k.laid.table.marks (slice_index ids i) ≡ []) (sym c.self.view_is) c.requires.unmarked in
    let back = gathered_back c.edits_keep_tables_sound.ensures.put now.shape now.table limits sound end from loc ids c.requires.some cards holds are c.requires.fresh
    c.requires.other unmarked in
    noted_edit (gathered from (list_at now.table from) loc (list_at now.table loc)) (past_seen c.self.inside.past) (past_seen c.note_lists.new.self) now
    c.put_on_table.new.table (put_each now.shape end loc ids now.table) c.in-Ok.ensures.noted c.put_on_table.ensures back
    ((from_is now.shape now.table from ids sound c.requires.some cards are, slice_get_within now.shape.places loc holds.0 holds.1, c.requires.other), tt)
    sound c.self.invariant

pub invariant_of-self-2 : goal.invariant_of-self-2
invariant_of-self-2 c = (kept c).0

pub returns-clause-leads : goal.returns-clause-leads
returns-clause-leads c =
    (kept c).1
    ∙ ap (λ (k : Kept). edited k (put_each k.laid.shape (end_of c.args.side) c.args.loc c.args.ids.now k.laid.table)) c.self.view_is

pub returns-clause-keeps : goal.returns-clause-keeps
returns-clause-keeps c = keeps_edit _ _ _ (returns-clause-leads c)
