use Rattle.std.proofs.Common.{set, ap, ◌∙◌, arith}
use Rattle.rc_table.proofs.RowLemmas.{moved_up, put_at_end}
use Rattle.rc_table.proofs.rows.insert_at.Goals as goal
use Rattle.rc_table.proofs.rows.insert_at.Goals.{then-place-last, else-place-last}

pub returns-clause-row : goal.returns-clause-row
returns-clause-row c =
    let row = c.args.row.now in
    let place = c.args.place in
    let id = c.args.id in
    elim c.if-place-last.branch [
      | then-place-last w ↦ ap (λ row. set row place id) (w.row-is ∙ w.copy_within.ensures.after) ∙ moved_up row place id w.if-place-last.true
      | else-place-last w ↦ let test = w.if-place-last.false in ap (λ row. set row place id) w.row-is ∙ put_at_end row place id c.requires (omega (arith, test))
    ]
