use Rattle.std.proofs.Common.{◌≡◌, ◌+◌, [], length, true, subst, sym, ap, ◌∙◌}
use Rattle.std.proofs.lemmas.List.{length-map}
use Rattle.rc_play_spec.specs.Keyed.{dealing_of}
use Rattle.rc_play_spec.specs.Along.{judged}
use Rattle.rc_play_spec.specs.Naming.{legend_of, face_line, face_numbers}
use Rattle.rc_play_spec.specs.Judged.{first_illegal}
use Rattle.rc_play_spec.specs.Legal.{IsLegalText}
use Rattle.rc_rules.specs.Plan.{plan_seen}
use Rattle.rc_text.specs.House.{house_text_seen, named_seen}
use Rattle.rc_judge.specs.Seen.{Finds, marks_left}
use Rattle.rc_judge.proofs.Steps.{legal_is}
use Rattle.rc_judge.proofs.judging.judge_named.Goals as goal

pub text_along-requires-clause-text : goal.text_along-requires-clause-text
text_along-requires-clause-text c = c.texts_are_of_lines.ensures.house true (named_seen c.args.named.now) c.requires.text

pub returns-clause-first : goal.returns-clause-first
returns-clause-first c =
    let about = c.args.about.now in
    let plan = plan_seen c.args.plan.now in
    let text = named_seen c.args.named.now in
    let head = 1 + length (legend_of about.sheet about.shape) in
    let lines : c.face_count-head.result ≡ length (legend_of about.sheet about.shape) =
    c.face_count-head.ensures.count ∙ ap (λ s. length (face_numbers s)) (c.deref.ensures ∙ c.shape.ensures) ∙ sym (length-map (face_numbers about.shape) (face_line about.sheet about.shape)) in
    let marks = c.new-told.ensures ∙ ap (marks_left []) c.deref-2.ensures.value in
    c.verdict_of.ensures (first_illegal about dealing_of plan head text)
    (subst (Finds c.text_along.result)
    ((λ i. judged about dealing_of plan (1 + lines i) (record { text = house_text_seen c.args.named.now.text; marks = marks i }))
    ∙ c.one_pass_judges.ensures about dealing_of plan true head text c.requires.text) c.text_along.ensures.verdict)

pub returns-clause-legal : goal.returns-clause-legal
returns-clause-legal c =
    let about = c.args.about.now in
    let plan = plan_seen c.args.plan.now in
    let text = named_seen c.args.named.now in
    let head = 1 + length (legend_of about.sheet about.shape) in
    let lines : c.face_count-head.result ≡ length (legend_of about.sheet about.shape) =
    c.face_count-head.ensures.count ∙ ap (λ s. length (face_numbers s)) (c.deref.ensures ∙ c.shape.ensures) ∙ sym (length-map (face_numbers about.shape) (face_line about.sheet about.shape)) in
    let marks = c.new-told.ensures ∙ ap (marks_left []) c.deref-2.ensures.value in
    legal_is c.verdict_of.result (first_illegal about dealing_of plan head text) (IsLegalText about dealing_of plan true text)
    (c.verdict_of.ensures (first_illegal about dealing_of plan head text)
    (subst (Finds c.text_along.result)
    ((λ i. judged about dealing_of plan (1 + lines i) (record { text = house_text_seen c.args.named.now.text; marks = marks i }))
    ∙ c.one_pass_judges.ensures about dealing_of plan true head text c.requires.text) c.text_along.ensures.verdict))
    (c.legal_exactly.ensures about dealing_of plan true head text c.requires.text)
