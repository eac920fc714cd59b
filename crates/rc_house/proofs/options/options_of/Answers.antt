use Rattle.rc_house.specs.Words.{text_of}
use Rattle.rc_house.proofs.WordLemmas.{some_weaker, none_weaker, of_some, of_none}
use Rattle.rc_house.proofs.options.options_of.Goals as goal

pub returns-in-Ok-Some-clause-some : goal.returns-in-Ok-Some-clause-some
returns-in-Ok-Some-clause-some c =
    some_weaker c.options_with.result (λ options given. (text_of c.in-Ok-Some.texts, given)) c.options_with.ensures.some

pub returns-in-Ok-Some-clause-none : goal.returns-in-Ok-Some-clause-none
returns-in-Ok-Some-clause-none c =
    none_weaker c.options_with.result
    (λ none options has. none options (of_some _ c.in-Ok-Some.field-0 c.in-Ok-Some.texts c.in-Ok-Some.field-0-is (c.in-Ok-Some.ensures options has)))
    c.options_with.ensures.none

pub returns-in-Ok-None-clause-none : goal.returns-in-Ok-None-clause-none
returns-in-Ok-None-clause-none c = λ options has. of_none _ c.in-Ok-None.field-0 c.in-Ok-None.field-0-is (c.in-Ok-None.ensures options has)
