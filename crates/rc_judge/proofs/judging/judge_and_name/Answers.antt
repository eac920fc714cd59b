use Rattle.std.proofs.Common.{◌≡◌, false, map, refl, subst, ap}
use Rattle.rc_deck.proofs.EachLemmas.{on_ok}
use Rattle.rc_play_spec.specs.Keyed.{dealing_of}
use Rattle.rc_play_spec.specs.HouseText.{unmarked}
use Rattle.rc_play_spec.specs.Judged.{first_illegal}
use Rattle.rc_play_spec.specs.Legal.{IsLegal}
use Rattle.rc_play_spec.specs.PlayedLaws.{bounds_of}
use Rattle.rc_rules.specs.Bounds.{bounds_seen}
use Rattle.rc_rules.specs.Plan.{plan_seen}
use Rattle.rc_text.specs.House.{house_text_seen}
use Rattle.rc_text.specs.BoundSeen.{all_bounds, AreFor}
use Rattle.rc_judge.specs.Seen.{Finds}
use Rattle.rc_judge.proofs.Fits.{noted_all, noted_fits}
use Rattle.rc_judge.proofs.Steps.{named_legal, noted_then, only_legal}
use Rattle.rc_judge.proofs.judging.judge_and_name.Goals as goal

pub returns-clause-first : goal.returns-clause-first
returns-clause-first c =
    let about = c.args.about.now in
    let plan = plan_seen c.args.plan.now in
    let text = unmarked (house_text_seen c.args.text.now) in
    c.named_by.ensures.found (first_illegal about dealing_of plan 1 text)
    (subst (Finds c.text_along-judged.result)
    (c.one_pass_judges.ensures about dealing_of plan false 1 text (c.texts_are_of_lines.ensures.bare (house_text_seen c.args.text.now) c.requires.text)) c.text_along-judged.ensures.verdict)

pub returns-clause-legal : goal.returns-clause-legal
returns-clause-legal c =
    let about = c.args.about.now in
    let plan = plan_seen c.args.plan.now in
    let text = unmarked (house_text_seen c.args.text.now) in
    let is = c.texts_are_of_lines.ensures.bare (house_text_seen c.args.text.now) c.requires.text in
    named_legal c.named_by.result (first_illegal about dealing_of plan 1 text) (IsLegal about dealing_of plan (house_text_seen c.args.text.now))
    (c.named_by.ensures.found (first_illegal about dealing_of plan 1 text)
    (subst (Finds c.text_along-judged.result) (c.one_pass_judges.ensures about dealing_of plan false 1 text is) c.text_along-judged.ensures.verdict))
    (only_legal about plan text (c.legal_exactly.ensures about dealing_of plan false 1 text is))

pub returns-clause-marks : goal.returns-clause-marks
returns-clause-marks c =
    let about = c.args.about.now in
    let plan = plan_seen c.args.plan.now in
    let text = house_text_seen c.args.text.now in
    let notes = c.text_along-judged.new.margin.before in
    noted_then c.named_by.result c.text_along-judged.result notes (λ bounds. all_bounds bounds.items ≡ bounds_of about plan text) c.named_by.ensures.notes
    (on_ok c.text_along-judged.result
    (c.text_along-judged.ensures.noted refl (ap (map bounds_seen) c.new-notes.ensures.here))
    (noted_all about dealing_of plan notes.items c.new-notes.result.before.items 0 text.matches c.new-notes.ensures.before))

pub returns-clause-fits : goal.returns-clause-fits
returns-clause-fits c =
    let about = c.args.about.now in
    let plan = plan_seen c.args.plan.now in
    let matches = c.args.text.now.matches.items in
    let notes = c.text_along-judged.new.margin.before in
    noted_then c.named_by.result c.text_along-judged.result notes (λ bounds. AreFor matches bounds.items) c.named_by.ensures.notes
    (on_ok c.text_along-judged.result
    (c.text_along-judged.ensures.noted refl (ap (map bounds_seen) c.new-notes.ensures.here))
    (noted_fits about dealing_of plan notes.items c.new-notes.result.before.items 0 matches c.new-notes.ensures.before))
