use Rattle.std.proofs.Common.{◌≡◌, drop}
use Rattle.rc_undo.specs.Undo.{all_marked}
use Rattle.rc_undo.proofs.entry.mark_these.Given as goal

-- what is left to mark, from here, leads to what all lead to
abbrev pub invariant-loop-at : goal.invariant-loop-at
invariant-loop-at l =
    (l.table.shape ≡ l.fn.table.shape) × (l.table.table.lists ≡ l.fn.table.table.lists)
    × (all_marked (drop l.at l.ids) (drop l.at l.marks) l.table.table ≡ all_marked l.ids l.marks l.fn.table.table)
