use Rattle.std.proofs.Common.{◌<◌, length, sym, ap, ◌∙◌, subst}
use Rattle.std.specs.Prelude.{All}
use Rattle.rc_deck.proofs.EachLemmas.{on_ok}
use Rattle.rc_ast.specs.Effects.{end_seen}
use Rattle.rc_table.specs.Laid.{relaid}
use Rattle.rc_table.specs.Runs.{put_each}
use Rattle.rc_value.specs.Cards.{values_seen}
use Rattle.rc_value.proofs.HeldLemmas.{held_go, held_cards}
use Rattle.rc_exec.proofs.moving.put_held.Goals as goal

pub put_ids-requires-clause-cards : goal.put_ids-requires-clause-cards
put_ids-requires-clause-cards c =
    let shape = c.args.board.now.laid.shape in
    subst (All (λ id. id < length shape.faces)) (sym (c.as_slice.ensures.value ∙ c.held_among.ensures))
    (held_cards shape c.args.cards.now c.requires.cards)

pub returns-clause-leads : goal.returns-clause-leads
returns-clause-leads c =
    let laid = c.args.board.now.laid in
    let end = end_seen c.args.end in
    on_ok c.put_ids.result c.put_ids.ensures.leads
    (λ leads. leads
    ∙ ap (λ ids. relaid laid (put_each laid.shape end c.args.at ids laid.table)) (c.as_slice.ensures.value ∙ c.held_among.ensures)
    ∙ sym (ap (relaid laid) (held_go laid.shape end c.args.at (values_seen c.args.cards.now) laid.table)))
