use Rattle.std.proofs.Common.{◌≡◌, ◌<◌, false, length, rules, sym, ap, ◌∙◌, subst}
use Rattle.rc_rules.specs.Machine.{menu_here}
use Rattle.rc_code.specs.Seen.{list_seen}
use Rattle.rc_flat.specs.State.{config_at}
use Rattle.rc_flat.specs.Machine.{Machine}
use Rattle.rc_flat.proofs.calls.FlatMachineMachine.apply.Goals as goal

pub apply-requires-clause-offered : goal.apply-requires-clause-offered
apply-requires-clause-offered g c =
    let m = c.self.inside in
    let same : c.deref-2.result.now ≡ m.code.value.list.items = search rules in
    let fresh : m.spent ≡ false = search rules in
    subst (λ list. c.args.item < length (menu_here m.about (config_at m.about (list_seen list) m.state))) (sym same)
    (subst (λ (m : Machine). c.args.item < length (menu_here m.about m.config)) (sym c.self.view_is)
    (c.requires.offered (sym (ap (λ (m : Machine). m.spent) c.self.view_is) ∙ fresh)))
