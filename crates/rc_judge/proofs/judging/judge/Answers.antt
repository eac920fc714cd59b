use Rattle.std.proofs.Common.{false, subst}
use Rattle.rc_play_spec.specs.Keyed.{dealing_of}
use Rattle.rc_play_spec.specs.HouseText.{unmarked}
use Rattle.rc_play_spec.specs.Judged.{first_illegal}
use Rattle.rc_play_spec.specs.Legal.{IsLegal}
use Rattle.rc_rules.specs.Plan.{plan_seen}
use Rattle.rc_text.specs.House.{house_text_seen}
use Rattle.rc_judge.specs.Seen.{Finds}
use Rattle.rc_judge.proofs.Steps.{legal_is, only_legal}
use Rattle.rc_judge.proofs.judging.judge.Goals as goal

pub returns-clause-first : goal.returns-clause-first
returns-clause-first c =
    let about = c.args.about.now in
    let plan = plan_seen c.args.plan.now in
    let text = unmarked (house_text_seen c.args.text.now) in
    c.verdict_of.ensures (first_illegal about dealing_of plan 1 text)
    (subst (Finds c.text_along.result)
    (c.one_pass_judges.ensures about dealing_of plan false 1 text (c.texts_are_of_lines.ensures.bare (house_text_seen c.args.text.now) c.requires.text)) c.text_along.ensures.verdict)

pub returns-clause-legal : goal.returns-clause-legal
returns-clause-legal c =
    let about = c.args.about.now in
    let plan = plan_seen c.args.plan.now in
    let text = unmarked (house_text_seen c.args.text.now) in
    let is = c.texts_are_of_lines.ensures.bare (house_text_seen c.args.text.now) c.requires.text in
    legal_is c.verdict_of.result (first_illegal about dealing_of plan 1 text) (IsLegal about dealing_of plan (house_text_seen c.args.text.now))
    (c.verdict_of.ensures (first_illegal about dealing_of plan 1 text)
    (subst (Finds c.text_along.result) (c.one_pass_judges.ensures about dealing_of plan false 1 text is) c.text_along.ensures.verdict))
    (only_legal about plan text (c.legal_exactly.ensures about dealing_of plan false 1 text is))
