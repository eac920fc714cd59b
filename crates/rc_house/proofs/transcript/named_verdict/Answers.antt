use Rattle.std.proofs.Common.{◌≡◌, ◌+◌, true, length, None, Ok, ap, sym, ◌∙◌, arith}
use Rattle.std.proofs.lemmas.Result.{IfOk-weaker}
use Rattle.rc_play_spec.specs.About.{About, about_of}
use Rattle.rc_play_spec.specs.Keyed.{dealing_of}
use Rattle.rc_rules.specs.Plan.{plan_seen}
use Rattle.rc_text.specs.House.{named_seen}
use Rattle.rc_play_spec.specs.Judged.{first_illegal}
use Rattle.rc_play_spec.specs.Naming.{legend_of}
use Rattle.rc_play_spec.specs.PlayedLaws.{format_by}
use Rattle.rc_play_spec.proofs.SameTexts.{house_is}
use Rattle.rc_judge.specs.Seen.{verdict_seen}
use Rattle.rc_house.specs.Answer.{judged_as, legal_answer, measured, seen, IsReadAnswer}
use Rattle.rc_house.proofs.Measured.{measurable}
use Rattle.rc_house.proofs.Verdicts.{illegal_is}
use Rattle.rc_house.proofs.transcript.named_verdict.Goals as goal

pub measured_text-requires : goal.measured_text-requires
measured_text-requires c =
    let same : c.deref.result.now ≡ about_of c.args.checked c.args.plan.now.turns = c.deref.ensures ∙ c.in_ok-about.ensures in
    let legal = c.in_ok-judge_named.ensures.legal.0 c.in-Legal.is in
    measurable c.deref.result.now c.args.plan.now c.args.named.now.text c.requires.within
    (c.requires.seats ∙ ap (λ (about : About). about.sheet.players) (sym same))
    (house_is true (named_seen c.args.named.now) c.requires.text) c.requires.few legal.0

pub returns-in-Legal : goal.returns-in-Legal
returns-in-Legal c =
    let about : About = about_of c.args.checked c.args.plan.now.turns in
    let plan = plan_seen c.args.plan.now in
    let told = named_seen c.args.named.now in
    let same : c.deref.result.now ≡ about = c.deref.ensures ∙ c.in_ok-about.ensures in
    let head : 1 + length (legend_of about.sheet about.shape) ≡ length (format_by true about).head = omega arith in
    let found : None ≡ first_illegal about dealing_of plan (length (format_by true about).head) told =
    ap verdict_seen (sym c.in-Legal.is) ∙ c.in_ok-judge_named.ensures.first
    ∙ ap (λ (about : About). first_illegal about dealing_of plan (1 + length (legend_of about.sheet about.shape)) told) same
    ∙ ap (λ head. first_illegal about dealing_of plan head told) head in
    IfOk-weaker c.measured_text.result (λ answer. seen answer 0 ≡ measured plan told.text)
    (IsReadAnswer c.args.asked true about plan (Ok told))
    (λ answer is.
    is ∙ ap (judged_as (measured plan told.text)) found
    ∙ ap (λ asked. judged_as (legal_answer asked about plan told.text) (first_illegal about dealing_of plan (length (format_by true about).head) told))
    (sym c.in-Measure.is))
    c.measured_text.ensures

pub returns : goal.returns
returns c =
    let about : About = about_of c.args.checked c.args.plan.now.turns in
    let plan = plan_seen c.args.plan.now in
    let told = named_seen c.args.named.now in
    let same : c.deref.result.now ≡ about = c.deref.ensures ∙ c.in_ok-about.ensures in
    let head : 1 + length (legend_of about.sheet about.shape) ≡ length (format_by true about).head = omega arith in
    illegal_is _ c.in-Illegal.line c.in-Illegal.why _
    (ap verdict_seen (sym c.in-Illegal.is) ∙ c.in_ok-judge_named.ensures.first
    ∙ ap (λ (about : About). first_illegal about dealing_of plan (1 + length (legend_of about.sheet about.shape)) told) same
    ∙ ap (λ head. first_illegal about dealing_of plan head told) head)
