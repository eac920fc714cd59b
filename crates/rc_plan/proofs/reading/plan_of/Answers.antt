use Rattle.std.proofs.Common.{length, subst, sym, ap, ◌∙◌}
use Rattle.std.proofs.lemmas.List.{length-map}
use Rattle.rc_form.specs.Form.{tree_of}
use Rattle.rc_play_spec.specs.Limits.{IsWithinLimits}
use Rattle.rc_play_spec.specs.PlanStands.{PlanStands}
use Rattle.rc_play_spec.specs.PlanFault.{IsPlanFault}
use Rattle.rc_rules.specs.Plan.{strategy_seen}
use Rattle.rc_plan.specs.Reads.{IfPlanFault}
use Rattle.rc_plan.proofs.DraftLemmas.{draft_stands, draft_within}
use Rattle.rc_plan.proofs.FirstFault.{of_first_round, of_draft, no_fault, sound}
use Rattle.rc_plan.proofs.Told.{handed_on}
use Rattle.rc_plan.proofs.reading.plan_of.Goals as goal

pub returns-in_err-draft-clause-found : goal.returns-in_err-draft-clause-found
returns-in_err-draft-clause-found c =
    let form = tree_of c.args.form.now in
    handed_on c.from_residual.result c.in_err-draft.field-0.0 (λ fail. IfPlanFault fail (λ fault. IsPlanFault form c.args.players fault.kind fault.at))
    c.from_residual.ensures.1
    (of_first_round c.in_err-draft.field-0.0 c.args.players form c.requires.placed.0 c.requires.placed.1 c.in_err-draft.ensures)

pub returns-in-Some-clause-found : goal.returns-in-Some-clause-found
returns-in-Some-clause-found c =
    of_draft c.in_ok-draft.draft (tree_of c.args.form.now) c.args.players c.requires.placed.0 c.fault.result c.in-Some.fault c.requires.placed.1
    c.in_ok-draft.ensures.0 c.in_ok-draft.ensures.1 c.fault.ensures c.in-Some.is

pub returns-in-Ok-clause-stands : goal.returns-in-Ok-clause-stands
returns-in-Ok-clause-stands c =
    let form = tree_of c.args.form.now in
    subst (λ plan. PlanStands plan form) (sym c.in-Ok.ensures) (draft_stands c.in_ok-draft.draft form c.in_ok-draft.ensures.0)

pub returns-in-Ok-clause-within : goal.returns-in-Ok-clause-within
returns-in-Ok-clause-within c =
    subst IsWithinLimits (sym c.in-Ok.ensures)
    (draft_within c.in_ok-draft.draft (tree_of c.args.form.now) c.args.players c.in_ok-draft.ensures.0 (sound c.in_ok-draft.draft c.args.players c.in_default.ensures)
    c.requires.some c.requires.few)

pub returns-in-Ok-clause-seats : goal.returns-in-Ok-clause-seats
returns-in-Ok-clause-seats c =
    ap (λ plan. length plan.strategies) c.in-Ok.ensures
    ∙ length-map c.in_ok-draft.draft.strategies.items strategy_seen
    ∙ (sound c.in_ok-draft.draft c.args.players c.in_default.ensures).seats

pub returns-in-Ok-clause-fine : goal.returns-in-Ok-clause-fine
returns-in-Ok-clause-fine c =
    no_fault c.in_ok-draft.draft (tree_of c.args.form.now) c.args.players c.in_ok-draft.ensures.0 c.in_ok-draft.ensures.1 c.in_default.ensures
