use Rattle.std.proofs.Common.{◌<◌, length, sym, ap, ◌∙◌, subst}
use Rattle.std.specs.List.Sorted.{IsPermutation}
use Rattle.rc_base.specs.Numbers.{below}
use Rattle.rc_play_spec.specs.Table.{list_at, reorder}
use Rattle.rc_table.proofs.Orders.{order_long}
use Rattle.rc_undo.specs.Undo.{Kept, edited}
use Rattle.rc_undo.specs.Past.{kept_of}
use Rattle.rc_undo.specs.PastSeen.{past_seen}
use Rattle.rc_undo.proofs.OrderLemmas.{order_comes_back}
use Rattle.rc_undo.proofs.PastLemmas.{AreNoted, order_noted}
use Rattle.rc_undo.proofs.KeepsLemmas.{keeps_edit}
use Rattle.rc_undo.proofs.board.Board.reorder.Goals as goal

kept : (c : goal.After-reorder) →
    AreNoted (past_seen c.note_order.new.self) c.reorder.new.self
    (edited (kept_of (past_seen c.self.inside.past) c.self.inside.table) (reorder c.args.loc c.args.order.now c.self.inside.table.table))
kept c =
    let now = c.self.inside.table in
    let loc = c.args.loc in
    let order = c.args.order.now in
    let within = subst (λ (k : Kept). loc < length k.laid.shape.places) (sym c.self.view_is) c.requires.loc in
    let permutes = subst (λ (k : Kept). IsPermutation (below (length (list_at k.laid.table loc))) order) (sym c.self.view_is) c.requires.order in
    let sound = c.shape-sound.ensures.sound in
    order_noted (past_seen c.self.inside.past) (past_seen c.note_order.new.self) now c.reorder.new.self (reorder loc order now.table) loc (list_at now.table loc)
    c.in-Ok.ensures.noted c.reorder.ensures
    (λ bytes are. order_comes_back now.shape now.table loc order bytes sound within (order_long _ order permutes) are)
    within sound c.self.invariant

pub invariant_of-self-2 : goal.invariant_of-self-2
invariant_of-self-2 c = (kept c).0

pub returns-clause-leads : goal.returns-clause-leads
returns-clause-leads c = (kept c).1 ∙ ap (λ (k : Kept). edited k (reorder c.args.loc c.args.order.now k.laid.table)) c.self.view_is

pub returns-clause-keeps : goal.returns-clause-keeps
returns-clause-keeps c = keeps_edit _ _ _ (returns-clause-leads c)
