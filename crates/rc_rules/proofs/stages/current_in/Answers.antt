use Rattle.std.proofs.Common.{true, false, sym, ◌∙◌}
use Rattle.rc_rules.proofs.StageLemmas.{current_in_last}
use Rattle.rc_rules.proofs.stages.current_in.Goals as goal

pub returns-then-is_stage_of : goal.returns-then-is_stage_of
returns-then-is_stage_of c =
    sym (
    current_in_last c.args.about.now.sheet c.args.class c.loop-frame.rest.now c.in-Some.outer.now c.in-Some.frame.now true
    c.in-Some.ensures.cases.0 (sym c.is_stage_of.ensures ∙ c.if-is_stage_of.true))
    ∙ c.loop-frame.invariant

pub loop-frame-preserved : goal.loop-frame-preserved
loop-frame-preserved c =
    sym (
    current_in_last c.args.about.now.sheet c.args.class c.loop-frame.rest.now c.in-Some.outer.now c.in-Some.frame.now false
    c.in-Some.ensures.cases.0 (sym c.is_stage_of.ensures ∙ c.if-is_stage_of.false))
    ∙ c.loop-frame.invariant
