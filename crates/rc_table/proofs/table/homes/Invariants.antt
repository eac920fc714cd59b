use Rattle.std.proofs.Common.{◌≡◌, length, map}
use Rattle.rc_base.specs.Numbers.{below}
use Rattle.rc_table.specs.Laid.{rooms}
use Rattle.rc_table.proofs.Homes.{begun}
use Rattle.rc_table.proofs.table.homes.Given as goal

abbrev pub invariant-loop-id : goal.invariant-loop-id
invariant-loop-id l = record {
  all : l.lists.all ≡ map (begun l.shape.home l.id) (below (length l.shape.places));
  room : l.lists.room ≡ rooms l.shape;
}
