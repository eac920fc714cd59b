use Rattle.rc_form.specs.Form.{trees_of}
use Rattle.rc_house.proofs.SourceAnswers.{sheet_answer}
use Rattle.rc_house.proofs.answer.prepare_sheet.Goals as goal

pub returns-in-Play : goal.returns-in-Play
returns-in-Play c = rw c.in-Play.is (c.prepare_play.ensures _)

pub returns-in_ok-sheet_answer-in-Sheet : goal.returns-in_ok-sheet_answer-in-Sheet
returns-in_ok-sheet_answer-in-Sheet c =
    let forms = c.args.forms.now in
    let read = rw c.in-Sheet.is at c.requires.read in
    rw c.in-Sheet.is
    (sheet_answer c.args.source.now (trees_of forms.list.items) forms.rest c.args.checked c.in_ok-sheet_answer-in-Sheet.field-0
    read c.requires.accepted c.in_ok-sheet_answer-in-Sheet.ensures)

pub returns-in_ok-answer-in-Check : goal.returns-in_ok-answer-in-Check
returns-in_ok-answer-in-Check c = rw c.in-Check.is c.in_ok-answer-in-Check.ensures

pub returns-in_ok-answer-in-Migrate : goal.returns-in_ok-answer-in-Migrate
returns-in_ok-answer-in-Migrate c = rw c.in-Migrate.is c.in_ok-answer-in-Migrate.ensures

pub returns-in_ok-answer-in-Watch : goal.returns-in_ok-answer-in-Watch
returns-in_ok-answer-in-Watch c = rw c.in-Watch.is c.in_ok-answer-in-Watch.ensures

pub returns-in_ok-answer-in-Measure : goal.returns-in_ok-answer-in-Measure
returns-in_ok-answer-in-Measure c = rw c.in-Measure.is c.in_ok-answer-in-Measure.ensures

pub returns-in_ok-answer-in-Rival : goal.returns-in_ok-answer-in-Rival
returns-in_ok-answer-in-Rival c = rw c.in-Rival.is c.in_ok-answer-in-Rival.ensures
