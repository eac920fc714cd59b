use Rattle.std.proofs.Common.{Some, ◌≡◌, slice_get, subst, rules}
use Rattle.rc_base.specs.Spelled.{Spelled}
use Rattle.rc_form.specs.Form.{tree_of}
use Rattle.rc_trick.specs.Trick.{trick_text}
use Rattle.rc_house.proofs.SourceAnswers.{first_tree}
use Rattle.rc_house.proofs.BenchLaws.{no_first_fault}
use Rattle.rc_house.proofs.benching.game_of.Goals as goal

pub returns-in-Ok-clause-trick : goal.returns-in-Ok-clause-trick
returns-in-Ok-clause-trick c =
    let forms = c.args.forms.now in
    let item : Some c.in-Some.form.now ≡ slice_get forms.list.items 0 = search rules in
    let first = first_tree forms.list.items c.in-Some.form.now item in
    c.the_trick_game_is_accepted.ensures.game (tree_of c.in-Some.form.now) first.0 forms.rest _
    (subst (λ trees. Spelled trick_text 1 trees forms.rest) first.1 c.requires.read) c.in-Ok.ensures.accepted.of_form

pub returns-in-Ok-clause-one : goal.returns-in-Ok-clause-one
returns-in-Ok-clause-one c = λ other game. c.the_trick_game_is_accepted.ensures.one _ other (returns-in-Ok-clause-trick c) game

pub returns-in-Ok-clause-players : goal.returns-in-Ok-clause-players
returns-in-Ok-clause-players c = c.the_trick_game_is_accepted.ensures.players _ (returns-in-Ok-clause-trick c)

pub unreachable-requires-in-Err-Fault : goal.unreachable-requires-in-Err-Fault
unreachable-requires-in-Err-Fault c =
    let forms = c.args.forms.now in
    let item : Some c.in-Some.form.now ≡ slice_get forms.list.items 0 = search rules in
    let first = first_tree forms.list.items c.in-Some.form.now item in
    let spelled = subst (λ trees. Spelled trick_text 1 trees forms.rest) first.1 c.requires.read in
    let law = c.the_trick_game_is_accepted.ensures in
    no_first_fault (tree_of c.in-Some.form.now) _ _ (law.no_part_fault _ first.0 forms.rest spelled)
    (λ sheet at. law.no_sight_fault _ first.0 forms.rest sheet at spelled)
    (rw c.in-Err-Fault.field-0-is at c.in-Err-Fault.ensures.refused)
