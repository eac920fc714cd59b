use Rattle.std.proofs.Common.{◌++◌, sym, ap, ◌∙◌}
use Rattle.rc_text.specs.House.{parts_of}
use Rattle.rc_text.proofs.Parts.{named_parts}
use Rattle.rc_text.proofs.house.write_named.Goals as goal

pub returns : goal.returns
returns c =
    let text = c.args.text.now in
    c.in_ok-add_text.ensures
    ∙ (λ i. (c.in_ok-extend_from_slice.ensures.items ∙ ap (λ front. front ++ c.args.legend.now) c.in_ok-out.ensures.items) i ++ parts_of text.text (c.deref.ensures.value i))
    ∙ sym (named_parts c.args.legend.now text c.requires.legend c.requires.fits)
