use Rattle.std.proofs.Common.{◌++◌, [], sym, ap, ◌∙◌}
use Rattle.rc_text.specs.House.{parts_of}
use Rattle.rc_text.proofs.Parts.{plain_parts}
use Rattle.rc_text.proofs.house.write_house.Goals as goal

pub returns : goal.returns
returns c =
    c.in_ok-add_text.ensures ∙ ap (λ front. front ++ parts_of c.args.text.now []) c.in_ok-out.ensures.items ∙ sym (plain_parts c.args.text.now)
