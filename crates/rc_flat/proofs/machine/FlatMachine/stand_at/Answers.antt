use Rattle.std.proofs.Common.{◌≡◌, rules, sym, ap, ◌∙◌, subst}
use Rattle.rc_rules.specs.Control.{control_seen}
use Rattle.rc_code.specs.Seen.{list_seen}
use Rattle.rc_undo.specs.Undo.{Kept}
use Rattle.rc_flat.specs.Flat.{config_of, flat_from}
use Rattle.rc_flat.specs.State.{flat_of}
use Rattle.rc_flat.specs.MarkedMoments.{IsInMatch}
use Rattle.rc_flat.specs.Machine.{Machine}
use Rattle.rc_flat.proofs.MomentLemmas.{config_same}
use Rattle.rc_flat.proofs.machine.FlatMachine.stand_at.Goals as goal

pub refill-requires-clause-on : goal.refill-requires-clause-on
refill-requires-clause-on c =
    let m = c.self.inside in
    let code = list_seen m.code.value.list.items in
    let stand = c.args.stand.now in
    let same : c.deref-2.result.now ≡ m.code.value.list.items = search rules in
    let on = subst (λ (m : Machine). IsInMatch (flat_from m.about m.code stand.place c.args.table.now.table (control_seen stand.control)))
    (sym c.self.view_is) c.requires.on in
    subst (λ list. IsInMatch (flat_of m.about (list_seen list) c.go_to.new.self)) (sym same)
    (subst IsInMatch (sym (c.go_to.ensures.there m.about code)) on)

pub returns-clause-at : goal.returns-clause-at
returns-clause-at c =
    let m = c.self.inside in
    let code = list_seen m.code.value.list.items in
    let stand = c.args.stand.now in
    let filled = c.refill.ensures in
    config_same m.about code c.go_to.new.self c.refill.new.state filled.board filled.control filled.place
    ∙ ap config_of (c.go_to.ensures.there m.about code)
    ∙ ap (λ (m : Machine). config_of (flat_from m.about m.code stand.place c.args.table.now.table (control_seen stand.control))) c.self.view_is

pub returns-clause-stays : goal.returns-clause-stays
returns-clause-stays c =
    record {
      about = ap (λ (m : Machine). m.about) c.self.view_is;
      code = ap (λ (m : Machine). m.code) c.self.view_is;
      home = ap (λ (k : Kept). k.home) (c.refill.ensures.board ∙ c.go_to.ensures.board)
          ∙ ap (λ (m : Machine). m.home) c.self.view_is;
    }
