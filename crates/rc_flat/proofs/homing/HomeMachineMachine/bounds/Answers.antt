use Rattle.std.proofs.Common.{◌<◌, length, sym, ap, ◌∙◌, subst}
use Rattle.rc_rules.specs.Machine.{bounds_here, menu_here}
use Rattle.rc_flat.specs.Home.{Homing}
use Rattle.rc_flat.proofs.homing.HomeMachineMachine.bounds.Goals as goal

pub bounds-requires-clause-offered : goal.bounds-requires-clause-offered
bounds-requires-clause-offered c =
    subst (λ (h : Homing). c.args.item < length (menu_here h.about h.config)) (sym c.self.view_is) c.requires.offered

pub returns : goal.returns
returns c = c.bounds.ensures ∙ ap (λ (h : Homing). bounds_here h.about c.args.item h.config) c.self.view_is
