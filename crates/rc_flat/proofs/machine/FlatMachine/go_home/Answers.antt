use Rattle.std.proofs.Common.{sym, ap, ◌∙◌, subst}
use Rattle.rc_code.specs.Seen.{list_seen}
use Rattle.rc_flat.specs.Machine.{Machine}
use Rattle.rc_flat.specs.Home.{config_at_home, IsHome}
use Rattle.rc_flat.proofs.HomeLemmas.{config_home, ready_home}
use Rattle.rc_flat.proofs.machine.FlatMachine.go_home.Goals as goal

pub invariant_of-self : goal.invariant_of-self
invariant_of-self c =
    let m = c.self.inside in
    let code = list_seen m.code.value.list.items in
    let home = subst (λ (m : Machine). IsHome m.about m.code m.home c.args.stand.now) (sym c.self.view_is) c.requires in
    let back = c.go_home.ensures in
    let ready = ready_home m.about code m.state.board c.go_home.new.self c.args.stand.now back.board back.control back.place back.menu back.current
    c.self.invariant.laid home in
    record {
      implements = c.self.invariant.implements;
      laid = ready.laid;
      ready = λ fresh. ready;
    }

pub returns-clause-at : goal.returns-clause-at
returns-clause-at c =
    let m = c.self.inside in
    let code = list_seen m.code.value.list.items in
    let home = subst (λ (m : Machine). IsHome m.about m.code m.home c.args.stand.now) (sym c.self.view_is) c.requires in
    let back = c.go_home.ensures in
    config_home m.about code m.state.board c.go_home.new.self c.args.stand.now back.board back.control back.place home
    ∙ ap (λ (m : Machine). config_at_home m.about m.code m.home c.args.stand.now) c.self.view_is
