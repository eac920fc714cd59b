use Rattle.std.proofs.Common.{◌≡◌, drop}
use Rattle.rc_table.specs.Runs.{end_of, put_each}
use Rattle.rc_table.proofs.table.Table.put_one_by_one.Given as goal

-- what is left to put, from here, leads to what all lead to
abbrev pub invariant-loop-id : goal.invariant-loop-id
invariant-loop-id l = record {
  shape : l.self.shape ≡ l.fn.self.shape;
  leads : put_each l.fn.self.shape (end_of l.side) l.loc (drop l.id-index l.ids) l.self.table ≡ put_each l.fn.self.shape (end_of l.side) l.loc l.ids l.fn.self.table;
}
