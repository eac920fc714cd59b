use Rattle.std.proofs.Common.{◌≡◌, ◌≤◌, length, take}
use Rattle.std.specs.Prelude.{filter}
use Rattle.rc_table.specs.Runs.{is_free}
use Rattle.rc_table.proofs.runs.push_free.Given as goal

abbrev pub invariant-loop-at : goal.invariant-loop-at
invariant-loop-at l = record {
  is : l.left.items ≡ filter (is_free l.flags) (take l.at l.list);
  few : length l.left.items ≤ l.at;
}
