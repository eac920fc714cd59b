use Rattle.std.proofs.Common.{refl, ap, ◌∙◌, subst}
use Rattle.rc_code.specs.Seen.{list_seen}
use Rattle.rc_flat.specs.Machine.{Machine}
use Rattle.rc_flat.specs.Moments.{IsMoment}
use Rattle.rc_flat.specs.declared.moments.Moment.{Moment}
use Rattle.rc_flat.proofs.GoingLemmas.{moment_here}
use Rattle.rc_flat.proofs.machine.FlatMachine.keep.Goals as goal

pub returns : goal.returns
returns c =
    let m = c.self.inside in
    let code = list_seen m.code.value.list.items in
    let fresh = ap (λ (m : Machine). m.spent) c.self.view_is ∙ c.requires.fresh in
    let moment : Moment = record {
      table = c.copy_from.new.self;
      stand = record { control = c.write_control.new.to; place = c.set_to.new.self; menu = c.write_menu.new.to };
      current = m.state.current;
    } in
    subst (λ (m : Machine). IsMoment m.about m.code m.config moment) c.self.view_is
    (moment_here m.about code m.state moment (c.self.invariant.ready fresh) (c.copy_from.ensures ∙ c.table.ensures) c.write_control.ensures c.set_to.ensures
    c.write_menu.ensures refl)
