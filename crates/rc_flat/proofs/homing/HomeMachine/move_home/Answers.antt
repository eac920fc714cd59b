use Rattle.std.proofs.Common.{◌≡◌, Some, IsSome, refl, sym, ap, ◌∙◌, subst}
use Rattle.rc_play_spec.specs.Decision.{at_site}
use Rattle.rc_rules.specs.Control.{control_seen}
use Rattle.rc_rules.specs.Machine.{CanDecide}
use Rattle.rc_flat.specs.Home.{Homing, IsHome, config_at_home}
use Rattle.rc_flat.specs.declared.stand.Stand.{Stand}
use Rattle.rc_flat.proofs.HomeLemmas.{home_made, home_here, code_stays}
use Rattle.rc_flat.proofs.homing.HomeMachine.move_home.Goals as goal

pub move_home-requires-clause-home : goal.move_home-requires-clause-home
move_home-requires-clause-home c = let some : IsSome (Some c.self.invariant.0.table) = refl in subst IsSome (sym c.self.invariant.0.is) some

pub move_home-requires-clause-on : goal.move_home-requires-clause-on
move_home-requires-clause-on c =
    let can = subst (λ (h : Homing). CanDecide h.about c.args.table.now.table h.home.control) (sym c.self.view_is) c.requires.decides in
    (c.self.invariant.0.site c.args.table.now.table can).0

-- it is at home, where it stands, at the site
moved : (c : goal.After-write_menu) →
    let m = c.move_home.new.self in
    let old = c.self.inside.stand in
    let stand : Stand = record { control = old.control; place = old.place; menu = c.write_menu.new.menu } in
    IsHome m.about m.code m.home stand × (config_at_home m.about m.code m.home stand ≡ m.config)
    × (m.config ≡ at_site c.args.self.now.about c.args.table.now.table c.args.self.now.home.control)
moved c =
    let m = c.move_home.new.self in
    let old = c.self.inside.stand in
    let stand : Stand = record { control = old.control; place = old.place; menu = c.write_menu.new.menu } in
    let about = c.self.inside.machine.about in
    let code = c.self.inside.machine.code in
    let table = c.args.table.now.table in
    let control = control_seen old.control in
    let can = subst (λ (h : Homing). CanDecide h.about table h.home.control) (sym c.self.view_is) c.requires.decides in
    let there = c.self.invariant.0.site table can in
    let is = c.move_home.ensures in (
      home_made about code old.place table control m stand is.about is.code is.home refl refl is.at there.0 c.write_menu.ensures c.self.invariant.0.site,
      home_here about code old.place table control m stand is.about is.code is.home refl refl is.at,
      is.at ∙ there.1 ∙ ap (λ (h : Homing). at_site h.about table h.home.control) c.self.view_is,
    )

pub invariant_of-self : goal.invariant_of-self
invariant_of-self c =
    let is = c.move_home.ensures in (
      (moved c).0,
      is.notes,
      code_stays c.self.inside.machine c.move_home.new.self c.self.inside.code.value is.about
          is.code c.self.invariant.2,
    )

pub returns-clause-home : goal.returns-clause-home
returns-clause-home c = (moved c).1 ∙ (moved c).2

pub returns-clause-at : goal.returns-clause-at
returns-clause-at c = sym (moved c).1
