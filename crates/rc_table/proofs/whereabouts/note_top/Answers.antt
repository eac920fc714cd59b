use Rattle.std.proofs.Common.{ap, ◌∙◌, sym, slice_set}
use Rattle.rc_table.proofs.TopLemmas.{top_noted}
use Rattle.rc_table.proofs.whereabouts.note_top.Goals as goal

pub returns : goal.returns
returns c =
    let to = c.args.to in
    let place = c.args.place in
    ap (λ stand. slice_set stand c.args.id (to, place)) c.note_left.ensures
    ∙ sym (top_noted c.args.shape.now c.args.lists.now.all to place c.args.id _ c.requires.cards c.requires.last)
