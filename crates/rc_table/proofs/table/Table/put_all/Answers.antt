use Rattle.std.proofs.Common.{◌-◌, length, take, drop, ap, ◌∙◌, arith}
use Rattle.std.proofs.lemmas.List.{length-drop, take_all}
use Rattle.rc_table.specs.Laid.{Laid, relaid}
use Rattle.rc_table.specs.Runs.{end_of, put_each}
use Rattle.rc_table.proofs.RunSteps.{more_put}
use Rattle.rc_table.proofs.table.Table.put_all.Goals as goal

pub loop-at-preserved : goal.loop-at-preserved
loop-at-preserved c =
    let loop = c.loop-at in
    let ids = c.args.ids.now in
    let left = length-drop loop.at ids in
    let count = c.put_some-at.ensures.count in
    let within = loop.invariant.within in
    let whole = take_all (length ids - loop.at) (drop loop.at ids) (omega (arith, left)) in
    let is = c.put_some-at.ensures.put
    ∙ ap (λ xs. relaid loop.self (put_each loop.self.shape (end_of c.args.side) c.args.loc (take c.put_some-at.result xs) loop.self.table)) whole in
    record {
      within = omega (arith, left, count, within);
      shape = ap (λ (laid : Laid). laid.shape) c.put_some-at.ensures.put ∙ loop.invariant.shape;
      leads = more_put c.args.self.now loop.self c.put_some-at.new.self (end_of c.args.side) c.args.loc ids loop.at c.put_some-at.result
          loop.invariant.shape is loop.invariant.leads;
    }
