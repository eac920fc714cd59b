use Rattle.std.proofs.Common.{◌≡◌, ◌<◌, length, rules, sym, ap, ◌∙◌, subst}
use Rattle.rc_rules.specs.Machine.{bounds_here, menu_here}
use Rattle.rc_code.specs.Seen.{list_seen}
use Rattle.rc_code.specs.declared.code.Code.{Code}
use Rattle.rc_flat.specs.State.{config_at}
use Rattle.rc_flat.specs.Machine.{Machine}
use Rattle.rc_flat.proofs.calls.FlatMachineMachine.bounds.Goals as goal

pub bounds_of-requires-clause-offered : goal.bounds_of-requires-clause-offered
bounds_of-requires-clause-offered c =
    let m = c.self.inside in
    let same : c.deref.result.now ≡ m.code.value = search rules in
    subst (λ (raw : Code). c.args.item < length (menu_here m.about (config_at m.about (list_seen raw.list.items) m.state))) (sym same)
    (subst (λ (m : Machine). c.args.item < length (menu_here m.about m.config)) (sym c.self.view_is) c.requires.offered)

pub returns : goal.returns
returns c =
    let m = c.self.inside in
    let same : c.deref.result.now ≡ m.code.value = search rules in
    c.bounds_of.ensures ∙ ap (λ (raw : Code). bounds_here m.about c.args.item (config_at m.about (list_seen raw.list.items) m.state)) same
    ∙ ap (λ (m : Machine). bounds_here m.about c.args.item m.config) c.self.view_is
