use Rattle.std.proofs.Common.{length, ap, ◌∙◌}
use Rattle.rc_rules.specs.Machine.{menu_here}
use Rattle.rc_flat.specs.Home.{Homing}
use Rattle.rc_flat.proofs.homing.HomeMachineMachine.menu_size.Goals as goal

pub returns-clause-count : goal.returns-clause-count
returns-clause-count c = c.menu_size.ensures.count
    ∙ ap (λ (h : Homing). length (menu_here h.about h.config)) c.self.view_is
