use Rattle.std.proofs.Common.{map, arith}
use Rattle.rc_table.specs.Places.{place_seen}
use Rattle.rc_table.specs.Shape.{mems_among}
use Rattle.rc_table.proofs.Mems.{mems_on}
use Rattle.rc_table.proofs.place.mems_among.Goals as goal

pub loop-place-preserved : goal.loop-place-preserved
loop-place-preserved c = record {
  few = omega (arith, c.mems_here-count.ensures.few, c.loop-place.invariant.few);
  told =
      mems_on _ c.args.places.now c.loop-place.place-index c.mems_here-count.result c.loop-place.count (mems_among (map place_seen c.args.places.now))
      c.loop-place-test.true c.mems_here-count.ensures.count c.loop-place.invariant.told;
}
