use Rattle.std.proofs.Common.{◌<◌, length, sym, ap, ◌∙◌, subst}
use Rattle.rc_rules.specs.Machine.{menu_here}
use Rattle.rc_flat.specs.Home.{Homing}
use Rattle.rc_flat.proofs.homing.HomeMachineMachine.apply.Goals as goal

pub apply-requires-clause-offered : goal.apply-requires-clause-offered
apply-requires-clause-offered g c =
    λ fresh.
    subst (λ (h : Homing). c.args.item < length (menu_here h.about h.config)) (sym c.self.view_is)
    (c.requires.offered (sym (ap (λ (h : Homing). h.spent) c.self.view_is) ∙ fresh))
