use Rattle.std.proofs.Common.{ap, ◌∙◌, sym, subst}
use Rattle.rc_rules.specs.Machine.{StopsAtDecision, menu_here}
use Rattle.rc_plain.specs.Plain.{Plain, config_of}
use Rattle.rc_plain.proofs.KeptLemmas.{kept_here}
use Rattle.rc_plain.proofs.machine.PlainMachineMachine.menu.Goals as goal

pub returns : goal.returns
returns c =
    c.copy_menu.ensures
    ∙ kept_here c.self.inside.about c.self.inside.state c.self.invariant
    (subst (λ (m : Plain). StopsAtDecision m.about (config_of m)) (sym c.self.view_is) c.requires.decision)
    ∙ ap (λ (m : Plain). menu_here m.about (config_of m)) c.self.view_is
