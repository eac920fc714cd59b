use Rattle.std.proofs.Common.{length, arith, ap}
use Rattle.rc_table.proofs.ByLocation.{references_here}
use Rattle.rc_table.proofs.table.Table.references.Goals as goal

pub overflow_add-sum : goal.overflow_add-sum
overflow_add-sum c =
    let shape = c.args.self.now.shape in
    let table = c.args.self.now.table in
    let count = ap (λ s. length s.places) c.shape.ensures.shape in
    let here = references_here shape.places table.lists c.loop-loc.loc (omega (arith, count, c.locations-loc-end.ensures)) c.shape.ensures.sound.locations in
    omega (arith, here, c.loop-loc.invariant, c.references_in-sum.ensures, c.shape.ensures.sound.together)

pub loop-loc-preserved : goal.loop-loc-preserved
loop-loc-preserved c =
    let shape = c.args.self.now.shape in
    let table = c.args.self.now.table in
    let count = ap (λ s. length s.places) c.shape.ensures.shape in
    let here = references_here shape.places table.lists c.loop-loc.loc (omega (arith, count, c.locations-loc-end.ensures)) c.shape.ensures.sound.locations in
    omega (arith, here, c.loop-loc.invariant, c.references_in-sum.ensures)
