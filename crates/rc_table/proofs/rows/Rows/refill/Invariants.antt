use Rattle.std.proofs.Common.{◌≡◌, ◌≤◌, length, drop}
use Rattle.rc_table.specs.Refilled.{CanRefill, lists_refilled}
use Rattle.rc_table.proofs.rows.Rows.refill.Given as goal

abbrev pub invariant-loop-at : goal.invariant-loop-at
invariant-loop-at l = record {
  within : l.from ≤ length l.ids;
  room : l.self.room ≡ l.fn.self.room;
  can : CanRefill (drop l.at-index l.lists) (drop l.from l.ids) l.self.all;
  is : lists_refilled (drop l.at-index l.lists) (drop l.from l.ids) l.self.all ≡ lists_refilled l.lists l.ids l.fn.self.all;
}
