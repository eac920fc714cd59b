use Rattle.std.proofs.Common.{ap, ◌∙◌, ◌<◌, arith, rules}
use Rattle.rc_sheet_spec.specs.WellFormed.{owner_count}
use Rattle.rc_value.proofs.OwnerLemmas.{few_owners}
use Rattle.rc_value.proofs.counting.member_count.Goals as goal

pub overflow_cast-result : goal.overflow_cast-result
overflow_cast-result c =
    let few = few_owners c.args.about.now.sheet c.args.class c.sheet.ensures.well in
    let is = c.owner_count.ensures ∙ ap (λ s. owner_count s c.args.class) c.sheet.ensures.same in
    let few' = few.1 in
    let fits : c.owner_count.result < 256 = omega (arith, few', is) in
    search (rules, fits)

pub returns-clause-some : goal.returns-clause-some
returns-clause-some c =
    let few = few_owners c.args.about.now.sheet c.args.class c.sheet.ensures.well in
    let is = c.owner_count.ensures ∙ ap (λ s. owner_count s c.args.class) c.sheet.ensures.same in
    let some = few.0 in
    omega (arith, some, is)
