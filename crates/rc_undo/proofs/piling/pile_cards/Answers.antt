use Rattle.std.proofs.Common.{sym, ap, ◌∙◌, subst}
use Rattle.rc_play_spec.specs.Table.{IsSound, list_at}
use Rattle.rc_table.specs.Laid.{Laid}
use Rattle.rc_undo.proofs.PiledLemmas.{sole_there}
use Rattle.rc_undo.proofs.piling.pile_cards.Goals as goal

pub put_top-requires-clause-card : goal.put_top-requires-clause-card
put_top-requires-clause-card c =
    let laid = c.args.board.now.laid in
    sole_there laid.shape laid.table c.args.from c.in-Some.id
    (subst (λ (l : Laid). IsSound l.shape l.table) c.table.ensures c.shape-sound.ensures.sound)
    (sym (ap (λ (l : Laid). list_at l.table c.args.from) c.table-2.ensures) ∙ sym c.list.ensures.list
    ∙ c.in-Some.ensures)
