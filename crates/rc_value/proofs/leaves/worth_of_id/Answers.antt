use Rattle.std.proofs.Common.{arith, sym, ◌∙◌}
use Rattle.std.proofs.lemmas.Grind.{common_steps}
use Rattle.rc_value.proofs.RowLemmas.{worth_by_id, worth_of_none}
use Rattle.rc_value.proofs.leaves.worth_of_id.Goals as goal

pub returns-in-Some : goal.returns-in-Some
returns-in-Some c = λ card told.
    let e = worth_by_id c.args.scene.now c.args.map c.in-Some.id c.worth_of.result card (sym c.in-Some.is ∙ told) c.worth_of.ensures.worth in
    grind (arith, common_steps, e)

pub returns-in-None : goal.returns-in-None
returns-in-None c = λ card told. worth_of_none c.args.scene.now c.args.map card (sym c.in-None.is ∙ told)
