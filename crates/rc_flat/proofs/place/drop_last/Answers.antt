use Rattle.std.proofs.Common.{ap, sym, ◌∙◌, ◌++◌, option_to_list}
use Rattle.rc_flat.specs.Places.{but_last}
use Rattle.rc_flat.proofs.StepCases.{but_last-append}
use Rattle.rc_flat.proofs.place.drop_last.Goals as goal

pub returns-in-Some : goal.returns-in-Some
returns-in-Some c =
    let left = c.pop.new.self.items in
    sym (ap but_last (c.pop.ensures.items ∙ ap (λ o. left ++ option_to_list o) c.in-Some.is) ∙ but_last-append left c.in-Some.field-0)
