use Rattle.std.proofs.Common.{List, [], map, ap, ◌∙◌}
use Rattle.rc_rules.specs.declared.record.MatchRecord.{MatchRecord}
use Rattle.rc_rules.specs.Plan.{plan_seen}
use Rattle.rc_rules.specs.Record.{record_seen}
use Rattle.rc_measure.specs.Measures.{measures_of}
use Rattle.rc_measure.specs.Text.{measures_text}
use Rattle.rc_house.specs.Answer.{text}
use Rattle.rc_house.proofs.transcript.measured_text.Goals as goal

pub returns : goal.returns
returns c =
    let plan = plan_seen c.args.plan.now in
    ap (λ bytes. text bytes [] 0)
    (c.in_ok-text.ensures ∙ ap measures_text c.in_ok-measures.ensures.measures
    ∙ ap (λ (matches : List MatchRecord). measures_text (measures_of plan (map record_seen matches))) c.deref.ensures.value)
