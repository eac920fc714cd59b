use Rattle.std.proofs.Common.{◌≡◌, drop}
use Rattle.rc_table.specs.Runs.{put_each}
use Rattle.rc_undo.specs.Sides.{end_of}
use Rattle.rc_undo.specs.Undo.{Keeps}
use Rattle.rc_undo.proofs.noting.put_one_by_one.Given as goal

-- what is left to put, from here, leads to what all lead to
abbrev pub invariant-loop-id : goal.invariant-loop-id
invariant-loop-id l = record {
  keeps : Keeps l.fn.board l.board;
  leads : put_each l.fn.board.laid.shape (end_of l.side) l.loc (drop l.id-index l.ids) l.board.laid.table
      ≡ put_each l.fn.board.laid.shape (end_of l.side) l.loc l.ids l.fn.board.laid.table;
}
