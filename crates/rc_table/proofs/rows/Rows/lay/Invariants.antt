use Rattle.std.proofs.Common.{◌≡◌, ℕ, ◌<◌, [], length, map, get_or}
use Rattle.rc_table.proofs.rows.Rows.lay.Given as goal

abbrev pub invariant-loop-at : goal.invariant-loop-at
invariant-loop-at l = record {
  long : length l.self.all ≡ length l.lists;
  room : l.self.room ≡ l.fn.self.room;
  same : (k : ℕ) → k < l.at → get_or l.self.all k [] ≡ get_or (map (λ list. list.items) l.lists) k [];
}
