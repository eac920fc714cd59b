use Rattle.std.proofs.Common.{arith, sym}
use Rattle.std.proofs.lemmas.List.{length-take, take_all}
use Rattle.rc_seatlog.proofs.told.first_told.Goals as goal

pub slice_bounds-result-end : goal.slice_bounds-result-end
slice_bounds-result-end g c =
    let few = length-take 1000 c.args.each.now in
    omega (arith, few, c.if-each-le-MOST_TOLD.false)

pub returns-then-each-le-MOST_TOLD : goal.returns-then-each-le-MOST_TOLD
returns-then-each-le-MOST_TOLD g c = sym (take_all 1000 c.args.each.now c.if-each-le-MOST_TOLD.true)
