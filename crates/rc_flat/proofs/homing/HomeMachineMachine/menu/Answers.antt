use Rattle.std.proofs.Common.{ap, ◌∙◌}
use Rattle.rc_rules.specs.Machine.{menu_here}
use Rattle.rc_flat.specs.Home.{Homing}
use Rattle.rc_flat.proofs.homing.HomeMachineMachine.menu.Goals as goal

pub returns : goal.returns
returns c = c.menu.ensures ∙ ap (λ (h : Homing). menu_here h.about h.config) c.self.view_is
