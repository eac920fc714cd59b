use Rattle.std.proofs.Common.{ap, ◌∙◌, subst, rules}
use Rattle.rc_play_spec.specs.HouseText.{plain, unmarked}
use Rattle.rc_play_spec.specs.Reading.{read_in}
use Rattle.rc_text.specs.Gives.{Gives}
use Rattle.rc_text.proofs.Exactly.{plain_seen, house_is, house_spelled, house_again, house_fails, read_few, read_fault}
use Rattle.rc_text.proofs.reading.read_house.Goals as goal

pub returns-clause-text : goal.returns-clause-text
returns-clause-text c =
    house_is c.without_marks.result c.args.bytes.now (c.without_marks.ensures c.args.bytes.now c.texts_are_read.ensures.only c.read_lines.ensures.reads)
    c.texts_are_read.ensures.only c.texts_are_of_lines.ensures.house

pub returns-clause-spelled : goal.returns-clause-spelled
returns-clause-spelled c =
    house_spelled c.without_marks.result c.args.bytes.now (c.without_marks.ensures c.args.bytes.now c.texts_are_read.ensures.only c.read_lines.ensures.reads)
    c.texts_are_read.ensures.only c.texts_are_of_lines.ensures.plain

pub returns-clause-few : goal.returns-clause-few
returns-clause-few c =
    read_few plain plain_seen c.args.bytes.now c.without_marks.result (c.without_marks.ensures c.args.bytes.now c.texts_are_read.ensures.only c.read_lines.ensures.reads)
    c.texts_are_read.ensures.only c.texts_are_of_lines.ensures.few

pub returns-clause-again : goal.returns-clause-again
returns-clause-again c = λ told is e.
    house_again c.without_marks.result told
    (subst (Gives plain_seen c.without_marks.result)
    (ap (read_in plain) (e ∙ c.texts_are_of_lines.ensures.plain told) ∙ c.texts_are_read.ensures.again plain (unmarked told) (search rules) (c.texts_are_of_lines.ensures.bare told is))
    (c.without_marks.ensures c.args.bytes.now c.texts_are_read.ensures.only c.read_lines.ensures.reads))

pub returns-clause-fault : goal.returns-clause-fault
returns-clause-fault c =
    read_fault plain plain_seen c.args.bytes.now c.without_marks.result (c.without_marks.ensures c.args.bytes.now c.texts_are_read.ensures.only c.read_lines.ensures.reads)
    (λ n e. c.faults_are_first.ensures.only plain c.args.bytes.now n (search rules) e)

pub returns-clause-first : goal.returns-clause-first
returns-clause-first c = λ line f.
    house_fails c.without_marks.result line
    (subst (Gives plain_seen c.without_marks.result) (c.faults_are_first.ensures.again plain c.args.bytes.now line (search rules) f)
    (c.without_marks.ensures c.args.bytes.now c.texts_are_read.ensures.only c.read_lines.ensures.reads))
