use Rattle.std.proofs.Common.{◌<◌, refl, sym, subst, length}
use Rattle.rc_rules.specs.Machine.{menu_here}
use Rattle.rc_plain.specs.Plain.{Plain, config_of}
use Rattle.rc_plain.proofs.machine.PlainMachineMachine.apply.Goals as goal

pub apply-requires-clause-offered : goal.apply-requires-clause-offered
apply-requires-clause-offered g c =
    subst (λ (m : Plain). c.args.item < length (menu_here m.about (config_of m))) (sym c.self.view_is) (c.requires.offered refl)
