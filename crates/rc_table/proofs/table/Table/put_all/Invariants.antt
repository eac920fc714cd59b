use Rattle.std.proofs.Common.{◌≡◌, ◌≤◌, ◌-◌, length, drop}
use Rattle.rc_table.specs.Runs.{end_of, put_each}
use Rattle.rc_table.proofs.table.Table.put_all.Given as goal

-- what is left to put, from here, leads to what all lead to
abbrev pub invariant-loop-at : goal.invariant-loop-at
invariant-loop-at l = record {
  within : l.at ≤ length l.ids;
  shape : l.self.shape ≡ l.fn.self.shape;
  leads : put_each l.fn.self.shape (end_of l.side) l.loc (drop l.at l.ids) l.self.table ≡ put_each l.fn.self.shape (end_of l.side) l.loc l.ids l.fn.self.table;
}

abbrev pub decreases-loop-at : goal.decreases-loop-at
decreases-loop-at l = length l.ids - l.at
