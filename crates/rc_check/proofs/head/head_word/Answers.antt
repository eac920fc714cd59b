use Rattle.std.proofs.Common.{sym, ◌∙◌}
use Rattle.rc_check.proofs.Heads.{variable_begins, keyword_begins, name_begins}
use Rattle.rc_check.proofs.head.head_word.Goals as goal

pub returns-then-is_variable : goal.returns-then-is_variable
returns-then-is_variable c = λ rule from to.
    variable_begins c.args.word.now from to (sym c.is_variable.ensures ∙ c.if-is_variable.true) rule

pub returns-in-Some : goal.returns-in-Some
returns-in-Some c = λ rule from to.
    keyword_begins c.args.word.now from to c.in-Some.keyword (sym c.keyword_of.ensures ∙ c.in-Some.is) rule

pub returns-in-None : goal.returns-in-None
returns-in-None c = λ rule from to.
    name_begins c.args.word.now from to (sym c.is_variable.ensures ∙ c.if-is_variable.false)
    (sym c.keyword_of.ensures ∙ c.in-None.is) rule
