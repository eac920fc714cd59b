use Rattle.std.proofs.Common.{sym, ap, ◌∙◌}
use Rattle.rc_deck.proofs.EachLemmas.{on_ok}
use Rattle.rc_play_spec.specs.Table.{loc_of, marks_of, set_marks}
use Rattle.rc_play_spec.specs.Effects.{is_named, joined, show_card}
use Rattle.rc_table.specs.Laid.{Laid, relaid}
use Rattle.rc_value.specs.declared.cards.Card.{Card}
use Rattle.rc_value.specs.Cards.{value_seen}
use Rattle.rc_undo.specs.Undo.{Kept}
use Rattle.rc_exec.proofs.peeking.show.Goals as goal

pub returns-in-Held-clause-leads : goal.returns-in-Held-clause-leads
returns-in-Held-clause-leads c =
    let laid = c.args.board.now.laid in
    let named = is_named laid.shape c.args.class c.args.owner in
    let marks =
    c.joined_marks-marks.ensures.marks
    ∙ ap (λ (l : Laid). joined l.shape (is_named l.shape c.args.class c.args.owner) (loc_of l.shape l.table c.in-Held.id) (marks_of l.table.marks c.in-Held.id))
    c.table.ensures in
    on_ok c.set_marks.result c.set_marks.ensures.leads (λ marked.
    ap (λ (k : Kept). k.laid) marked
    ∙ ap (λ seats. relaid laid (set_marks c.in-Held.id seats laid.table)) marks
    ∙ ap (λ (card : Card). relaid laid (show_card laid.shape named laid.table (value_seen card))) (sym c.in-Held.is))
