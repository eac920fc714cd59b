use Rattle.std.proofs.Common.{ap, ◌∙◌, length, sym, subst}
use Rattle.rc_rules.specs.Machine.{StopsAtDecision, menu_here}
use Rattle.rc_code.specs.Seen.{list_seen}
use Rattle.rc_flat.specs.Machine.{Machine}
use Rattle.rc_flat.proofs.KeptLemmas.{so_many}
use Rattle.rc_flat.proofs.calls.FlatMachineMachine.menu_size.Goals as goal

pub returns-clause-count : goal.returns-clause-count
returns-clause-count c =
    let m = c.self.inside in
    c.len.ensures.value
    ∙ so_many m.about (list_seen m.code.value.list.items) m.state (c.self.invariant.ready (ap (λ (m : Machine). m.spent) c.self.view_is ∙ c.requires.fresh))
    (subst (λ (m : Machine). StopsAtDecision m.about m.config) (sym c.self.view_is) c.requires.decision)
    ∙ ap (λ (m : Machine). length (menu_here m.about m.config)) c.self.view_is
