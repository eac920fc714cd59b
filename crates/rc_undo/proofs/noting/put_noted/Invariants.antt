use Rattle.std.proofs.Common.{◌≡◌, ◌≤◌, ◌-◌, length, drop}
use Rattle.rc_table.specs.Runs.{put_each}
use Rattle.rc_undo.specs.Sides.{end_of}
use Rattle.rc_undo.specs.Undo.{Keeps}
use Rattle.rc_undo.proofs.noting.put_noted.Given as goal

-- what is left to put, from here, leads to what all lead to
abbrev pub invariant-loop-at : goal.invariant-loop-at
invariant-loop-at l = record {
  within : l.at ≤ length l.ids;
  keeps : Keeps l.fn.board l.board;
  leads : put_each l.fn.board.laid.shape (end_of l.side) l.loc (drop l.at l.ids) l.board.laid.table
      ≡ put_each l.fn.board.laid.shape (end_of l.side) l.loc l.ids l.fn.board.laid.table;
}

abbrev pub decreases-loop-at : goal.decreases-loop-at
decreases-loop-at l = length l.ids - l.at
