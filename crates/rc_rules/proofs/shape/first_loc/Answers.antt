use Rattle.std.proofs.Common.{◌≤◌, min, ap₂, subst, sym, ◌∙◌, arith}
use Rattle.rc_rules.proofs.ShapeLemmas.{first_within, first_is}
use Rattle.rc_rules.proofs.shape.first_loc.Goals as goal

pub location_count-requires : goal.location_count-requires
location_count-requires c = first_within c.args.sheet.now c.requires c.min-before.result c.deref.result.now c.deref.ensures.value

pub overflow_cast-result : goal.overflow_cast-result
overflow_cast-result c =
    let few : c.location_count.result ≤ 256 =
    subst (λ n. n ≤ 256) (sym c.location_count.ensures) (first_within c.args.sheet.now c.requires c.min-before.result c.deref.result.now c.deref.ensures.value) in
    omega (arith, few)

pub returns : goal.returns
returns c =
    c.location_count.ensures
    ∙ first_is c.args.sheet.now c.args.name c.min-before.result c.deref.result.now c.deref.ensures.value
    (c.min-before.ensures ∙ ap₂ min c.from.ensures (c.len.ensures ∙ sym c.deref.ensures.len))
