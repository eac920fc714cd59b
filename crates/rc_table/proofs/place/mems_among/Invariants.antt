use Rattle.std.proofs.Common.{◌≡◌, ◌+◌, ◌≤◌, drop, map}
use Rattle.rc_table.specs.Places.{place_seen}
use Rattle.rc_table.specs.Shape.{mems_among}
use Rattle.rc_table.proofs.place.mems_among.Given as goal

abbrev pub invariant-loop-place : goal.invariant-loop-place
invariant-loop-place l = record {
  few : l.count ≤ l.place-index;
  told : l.count + mems_among (map place_seen (drop l.place-index l.places)) ≡ mems_among (map place_seen l.places);
}
