use Rattle.std.proofs.Common.{◌∙◌}
use Rattle.rc_rules.specs.Control.{control_seen}
use Rattle.rc_redraw.specs.Asking.{ask_seen}
use Rattle.rc_rollout.proofs.StandingLemmas.{can_decide, stands_made}
use Rattle.rc_rollout.proofs.ground.machine_at.Goals as goal

pub at_decision-requires-clause-decides : goal.at_decision-requires-clause-decides
at_decision-requires-clause-decides c =
    can_decide c.args.about.now c.in_ok-own.own (ask_seen c.args.ask.now) 0 c.in_ok-first.first
    (control_seen c.copy-3.result)
    c.menu_sizes_are_functions_of_views.ensures.redrawn c.sheet-sheet.ensures.shape c.sheet-sheet.ensures.sight
    c.requires.at c.in_ok-own.ensures (c.in_ok-first.ensures ∙ c.requires.table) c.copy-3.ensures

pub returns : goal.returns
returns c =
    let made = c.at_decision.ensures in
    stands_made c.args.about.now c.in_ok-own.own (ask_seen c.args.ask.now) 0 c.in_ok-first.first
    (control_seen c.copy-3.result) c.at_decision.result
    c.menu_sizes_are_functions_of_views.ensures.redrawn c.sheet-sheet.ensures.shape c.sheet-sheet.ensures.sight
    c.requires.at c.in_ok-own.ensures (c.in_ok-first.ensures ∙ c.requires.table) c.copy-3.ensures
    made.about made.home made.at made.fresh
