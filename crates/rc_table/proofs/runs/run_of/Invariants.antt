use Rattle.std.proofs.Common.{◌≡◌, get_or, take}
use Rattle.std.specs.Prelude.{All}
use Rattle.rc_table.specs.Runs.{flagged, AreFresh}
use Rattle.rc_table.proofs.runs.run_of.Given as goal

abbrev pub invariant-loop-at : goal.invariant-loop-at
invariant-loop-at l = record {
  flags : l.flags ≡ flagged (take l.at l.ids) l.fn.flags;
  fresh : AreFresh l.fn.flags (take l.at l.ids);
  one : All (λ id. (get_or l.stand id (0, 0)).0 ≡ l.from) (take l.at l.ids);
}
