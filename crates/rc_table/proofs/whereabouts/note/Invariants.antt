use Rattle.std.proofs.Common.{◌≡◌, length, drop}
use Rattle.rc_table.specs.Whereabouts.{noted}
use Rattle.rc_table.proofs.whereabouts.note.Given as goal

abbrev pub invariant-loop-at : goal.invariant-loop-at
invariant-loop-at l = record {
  is : noted l.loc l.at (drop l.at l.list) l.stand ≡ noted l.loc l.from (drop l.from l.list) l.initial.stand;
  long : length l.stand ≡ length l.initial.stand;
}
