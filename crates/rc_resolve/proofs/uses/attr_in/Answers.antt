use Rattle.std.proofs.Common.{◌∙◌, sym, arith}
use Rattle.rc_resolve.proofs.Lengths.{attr_other}
use Rattle.rc_resolve.proofs.Mentioned.{attr_four, attr_four-none}
use Rattle.rc_resolve.proofs.uses.attr_in.Goals as goal

pub returns-then-is_form_word-3 : goal.returns-then-is_form_word-3
returns-then-is_form_word-3 c =
    c.word_of-then-is_form_word-3.ensures
    ∙ sym (attr_four c.args.parts.now c.head-item-then-parts-lt5.result c.attr-item-then-parts-lt5.result
    c.in-len4.len_at_least c.in-len4.len_below c.head-item-then-parts-lt5.is c.attr-item-then-parts-lt5.is
    c.if-is_form_word-3.ensures)

pub returns-else-is_form_word-3 : goal.returns-else-is_form_word-3
returns-else-is_form_word-3 c =
    sym (attr_four-none c.args.parts.now c.head-item-then-parts-lt5.result c.attr-item-then-parts-lt5.result
    c.in-len4.len_at_least c.in-len4.len_below c.head-item-then-parts-lt5.is c.attr-item-then-parts-lt5.is
    c.if-is_form_word-3.ensures)

pub returns-in_default : goal.returns-in_default
returns-in_default c = attr_other c.args.parts.now (λ long. grind arith) (λ long. grind arith)
