use Rattle.std.proofs.Common.{sym, subst, arith}
use Rattle.std.proofs.lemmas.Int.{ints}
use Rattle.rc_base.specs.Clamp.{IsWithinClamp}
use Rattle.rc_deck.proofs.PointLemmas.{sum_of_more, IsWithinClamp-added}
use Rattle.rc_deck.proofs.scoring.points.Goals as goal

pub overflow_add-sum : goal.overflow_add-sum
overflow_add-sum c =
    let limit : IsWithinClamp c.points_of_entry.result =
    subst IsWithinClamp (sym c.points_of_entry.ensures) (IsWithinClamp-added c.args.face.now _ _ _ _ c.requires.clamped c.deref-entry-items.ensures.value c.loop-entry-test.true c.entry-item.is) in
    omega (arith, ints)

pub loop-entry-preserved : goal.loop-entry-preserved
loop-entry-preserved c =
    let limit : IsWithinClamp c.points_of_entry.result =
    subst IsWithinClamp (sym c.points_of_entry.ensures) (IsWithinClamp-added c.args.face.now _ _ _ _ c.requires.clamped c.deref-entry-items.ensures.value c.loop-entry-test.true c.entry-item.is) in
    let more = sum_of_more c.args.face.now _ _ _ c.loop-entry-test.true c.entry-item.is in
    record {
      added = omega (arith, ints, more);
      above = omega (arith, ints);
      below = omega (arith, ints);
    }
