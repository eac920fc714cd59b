use Rattle.std.proofs.Common.{◌<◌, ap, ◌∙◌, length, sym, subst}
use Rattle.rc_rules.specs.Machine.{bounds_here, menu_here}
use Rattle.rc_plain.specs.Plain.{Plain, config_of}
use Rattle.rc_plain.proofs.machine.PlainMachineMachine.bounds.Goals as goal

pub bounds-requires-clause-offered : goal.bounds-requires-clause-offered
bounds-requires-clause-offered c =
    subst (λ (m : Plain). c.args.item < length (menu_here m.about (config_of m))) (sym c.self.view_is) c.requires.offered

pub returns : goal.returns
returns c = c.bounds.ensures ∙ ap (λ (m : Plain). bounds_here m.about c.args.item (config_of m)) c.self.view_is
