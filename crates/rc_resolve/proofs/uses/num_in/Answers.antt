use Rattle.std.proofs.Common.{◌∙◌, ◌∷◌, [], sym, ap, arith}
use Rattle.std.specs.Prelude.{codes}
use Rattle.rc_resolve.proofs.Lengths.{num_other}
use Rattle.rc_resolve.proofs.Mentioned.{num_three}
use Rattle.rc_resolve.proofs.uses.num_in.Goals as goal

pub returns-in_default : goal.returns-in_default
returns-in_default c = num_other c.args.parts.now (λ long. grind arith)

pub returns : goal.returns
returns c =
    ap (λ class. record { name = c.in-Some.name; kind = codes "sto"; class = class } ∷ []) c.class_of.ensures
    ∙ sym (num_three c.args.parts.now c.holder-item.result c.kind-item.result c.name-item.result c.in-Some.name
    c.in-len3.len_at_least c.in-len3.len_below c.holder-item.is c.kind-item.is c.name-item.is
    c.if-not-is_form_word.ensures c.in-Some.ensures)
