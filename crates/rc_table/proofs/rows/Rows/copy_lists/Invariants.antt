use Rattle.std.proofs.Common.{◌≡◌}
use Rattle.rc_table.proofs.CopiedLists.{AreCopied}
use Rattle.rc_table.proofs.rows.Rows.copy_lists.Given as goal

abbrev pub invariant-loop-at : goal.invariant-loop-at
invariant-loop-at l = record {
  room : l.self.room ≡ l.fn.self.room;
  copied : AreCopied l.at l.self.all l.other.all;
}
