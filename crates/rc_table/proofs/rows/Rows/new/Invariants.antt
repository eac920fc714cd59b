use Rattle.std.proofs.Common.{◌≡◌, ◌≤◌, ◌*◌, ℕ, List, [], map, take, replicate}
use Rattle.rc_table.specs.Laid.{rooms}
use Rattle.rc_table.specs.RowsSeen.{list_in, room_of, AreRows}
use Rattle.rc_table.proofs.rows.Rows.new.Given as goal

abbrev pub invariant-loop-loc : goal.invariant-loop-loc
invariant-loop-loc l = record {
  are : AreRows l.rows.items 0 l.end;
  rooms : map room_of l.rows.items ≡ take l.loc (rooms l.shape);
  lists : (ids : List ℕ) → map (list_in ids) l.rows.items ≡ replicate l.loc [];
  small : l.end ≤ l.loc * 65535;
}
