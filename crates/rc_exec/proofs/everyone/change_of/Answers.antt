use Rattle.std.proofs.Common.{sym, subst}
use Rattle.std.specs.Prelude.{IfSome}
use Rattle.rc_sheet_spec.specs.Sheet.{effect, no_effect}
use Rattle.rc_rules.specs.Control.{frames_seen}
use Rattle.rc_exec.specs.Everyone.{AreTurns, change_for}
use Rattle.rc_exec.proofs.everyone.change_of.Goals as goal

pub returns-in-Some-clause-turns : goal.returns-in-Some-clause-turns
returns-in-Some-clause-turns c =
    let context = c.args.context.now in
    let frames = frames_seen c.args.frames.now.items in
    subst (λ e. IfSome c.change_by.result
    (λ each. AreTurns context.about.now context.scope.now frames (effect e no_effect) (change_for each)))
    (sym c.in-Some.ensures) c.change_by.ensures.turns
