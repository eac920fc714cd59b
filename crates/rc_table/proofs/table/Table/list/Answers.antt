use Rattle.std.proofs.Common.{length, arith, ap}
use Rattle.rc_table.proofs.Held.{few_in_list}
use Rattle.rc_table.proofs.table.Table.list.Goals as goal

pub returns-clause-few : goal.returns-clause-few
returns-clause-few c =
    let few = few_in_list _ _ c.self.invariant.sound c.self.invariant.limits c.args.loc in
    let same = ap length c.list.ensures in
    omega (arith, few, same)
