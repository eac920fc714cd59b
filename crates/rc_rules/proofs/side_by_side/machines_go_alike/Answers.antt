use Rattle.std.proofs.Common.{◌<◌, length, ap₂, subst}
use Rattle.rc_rules.specs.Machine.{menu_here}
use Rattle.rc_rules.proofs.side_by_side.machines_go_alike.Goals as goal

pub apply-other_went-requires-clause-offered : goal.apply-other_went-requires-clause-offered
apply-other_went-requires-clause-offered g c = λ fresh.
    subst (λ many. c.args.item < many) (ap₂ (λ about here. length (menu_here about here)) c.requires.about c.requires.config) c.requires.offered
