use Rattle.std.proofs.Common.{ap, ◌∙◌, length, sym, subst}
use Rattle.rc_rules.specs.Machine.{StopsAtDecision, menu_here}
use Rattle.rc_plain.specs.Plain.{Plain, config_of}
use Rattle.rc_plain.proofs.KeptLemmas.{so_many}
use Rattle.rc_plain.proofs.machine.PlainMachineMachine.menu_size.Goals as goal

pub returns-clause-count : goal.returns-clause-count
returns-clause-count c =
    c.len.ensures.value
    ∙ so_many c.self.inside.about c.self.inside.state c.self.invariant
    (subst (λ (m : Plain). StopsAtDecision m.about (config_of m)) (sym c.self.view_is) c.requires.decision)
    ∙ ap (λ (m : Plain). length (menu_here m.about (config_of m))) c.self.view_is
