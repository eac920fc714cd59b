use Rattle.std.proofs.Common.{◌≤◌, length, slice_get, sym, ap, ◌∙◌, subst}
use Rattle.rc_deck.proofs.EachLemmas.{on_ok}
use Rattle.rc_play_spec.specs.Shape.{Shape, holds_references}
use Rattle.rc_play_spec.specs.Table.{list_at}
use Rattle.rc_table.specs.Laid.{Laid, relaid}
use Rattle.rc_undo.proofs.PiledLemmas.{references_stay, cards_go}
use Rattle.rc_undo.proofs.board.Board.pile.Goals as goal

pub returns-then-holds_references-clause-leads : goal.returns-then-holds_references-clause-leads
returns-then-holds_references-clause-leads c =
    let laid = c.args.self.now.laid in
    let same = c.shape.ensures.shape ∙ ap (λ (l : Laid). l.shape) c.table-2.ensures in
    let are = ap (λ (s : Shape). holds_references (slice_get s.places c.args.from)) (sym same) ∙ sym c.holds_references.ensures ∙ c.if-holds_references.true in
    sym (ap (relaid laid) (references_stay laid.shape c.args.to c.args.from laid.table are))

pub returns-clause-leads : goal.returns-clause-leads
returns-clause-leads c =
    let laid = c.args.self.now.laid in
    let same = c.shape.ensures.shape ∙ ap (λ (l : Laid). l.shape) c.table-2.ensures in
    let are = ap (λ (s : Shape). holds_references (slice_get s.places c.args.from)) (sym same) ∙ sym c.holds_references.ensures ∙ c.if-holds_references.false in
    let list = c.list-few.ensures.list ∙ ap (λ (l : Laid). list_at l.table c.args.from) c.table.ensures in
    let few = subst (λ ids. length ids ≤ 512) list c.list-few.ensures.few in
    on_ok c.pile_cards.result c.pile_cards.ensures.leads
    (λ leads. leads ∙ ap (relaid laid) (sym (cards_go laid.shape c.args.to c.args.from laid.table are few)))
