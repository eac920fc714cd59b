use Rattle.std.proofs.Common.{sym, ap, subst}
use Rattle.rc_play_spec.specs.About.{About}
use Rattle.rc_rules.specs.Plan.{plan_seen}
use Rattle.rc_code.specs.Seen.{code_seen}
use Rattle.rc_code.specs.Stands.{StandsFor}
use Rattle.rc_match.specs.Lane.{phase_seen}
use Rattle.rc_core.specs.Stored.{lane_in, Wants}
use Rattle.rc_core.proofs.StoredLemmas.{match_wants}
use Rattle.rc_core.proofs.SpentLemmas.{became_spent}
use Rattle.rc_core.proofs.working.work.Goals as goal

pub missed_entry-requires-clause-code : goal.missed_entry-requires-clause-code
missed_entry-requires-clause-code c =
    let job = c.args.job.now in
    let wants = match_wants job.about.value (plan_seen job.plan.value) job.number (lane_in c.args.state.now) c.requires.sound in
    let here = subst (λ ph. Wants job.about.value (phase_seen ph)) c.in-Missed.is wants in
    subst (λ (a : About). StandsFor a.sheet (code_seen c.args.code.now.value)) (sym here.1) c.requires.code

pub returns-in-Ready-clause-lacking : goal.returns-in-Ready-clause-lacking
returns-in-Ready-clause-lacking c =
    became_spent c.lane_step.result (lane_in c.args.state.now) (lane_in c.lane_step.new.state) _ (ap phase_seen c.in-Ready.is)
    c.lane_step.ensures.lacking c.lane_step.ensures.kept
