use Rattle.std.proofs.Common.{ℕ, ◌<◌, length, slice_index, sym, subst}
use Rattle.rc_table.specs.Laid.{Laid}
use Rattle.rc_undo.specs.Undo.{MayMark}
use Rattle.rc_undo.proofs.entry.order_back.Goals as goal

pub mark_these-requires-clause-may : goal.mark_these-requires-clause-may
mark_these-requires-clause-may c =
    let list = c.args.list.now in
    let marks = c.args.marks.now in
    subst (λ (laid : Laid). (k : ℕ) → k < length marks → MayMark laid.shape laid.table (slice_index list k) (slice_index marks k)) (sym c.relist.ensures)
    c.requires.through.2
