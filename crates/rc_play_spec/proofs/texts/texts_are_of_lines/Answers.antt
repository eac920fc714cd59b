use Rattle.rc_play_spec.proofs.SameTexts.{text_apart, text_same, plain_is, house_is, text_cut, lines_few}
use Rattle.rc_play_spec.proofs.texts.texts_are_of_lines.Goals as goal

pub returns-clause-parts : goal.returns-clause-parts
returns-clause-parts c = λ f n. text_apart f n

pub returns-clause-plain : goal.returns-clause-plain
returns-clause-plain c = λ t. text_same t

pub returns-clause-bare : goal.returns-clause-bare
returns-clause-bare c = λ t is. plain_is t is

pub returns-clause-house : goal.returns-clause-house
returns-clause-house c = λ named n is. house_is named n is

pub returns-clause-cut : goal.returns-clause-cut
returns-clause-cut c = λ f n good is. text_cut f n good is

pub returns-clause-few : goal.returns-clause-few
returns-clause-few c = λ f n. lines_few f n
