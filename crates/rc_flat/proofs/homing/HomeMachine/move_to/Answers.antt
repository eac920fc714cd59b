use Rattle.std.proofs.Common.{◌≡◌, Some, IsSome, rules, refl, sym, ap, ◌∙◌, subst}
use Rattle.rc_sheet_spec.specs.WellFormed.{IsWellFormed}
use Rattle.rc_play_spec.specs.About.{About}
use Rattle.rc_play_spec.specs.Control.{Control}
use Rattle.rc_play_spec.specs.Decision.{at_site}
use Rattle.rc_rules.specs.Control.{control_seen}
use Rattle.rc_rules.specs.Machine.{CanDecide}
use Rattle.rc_code.specs.Seen.{code_seen}
use Rattle.rc_code.specs.declared.code.Code.{Code}
use Rattle.rc_flat.specs.Flat.{config_of, flat_from}
use Rattle.rc_flat.specs.MarkedMoments.{IsInMatch}
use Rattle.rc_flat.specs.Home.{Homing, IsHome, config_at_home}
use Rattle.rc_flat.specs.declared.stand.Stand.{Stand}
use Rattle.rc_flat.proofs.SitePlaceLemmas.{HasPlace, IsPlaceOf, decision_has}
use Rattle.rc_flat.proofs.HomeLemmas.{own_site, home_made, home_here, code_stays}
use Rattle.rc_flat.proofs.homing.HomeMachine.move_to.Goals as goal

pub place_of-place-requires : goal.place_of-place-requires
place_of-place-requires c =
    let h = c.self.inside in
    let raw = h.code.value in
    let control = control_seen c.args.control.now in
    let same : c.deref.result.now ≡ raw = search rules in
    let can = subst (λ (m : Homing). CanDecide m.about c.args.table.now.table control)
    (sym c.self.view_is) c.requires.decides in
    let well = subst (λ (a : About). IsWellFormed a.sheet) c.about.ensures c.sheet-sheet.ensures.well in
    subst (λ (r : Code). HasPlace (code_seen r) c.site_of.result) (sym same)
    (decision_has h.machine.about (code_seen raw) c.args.table.now.table control c.sites_are_placed.ensures
    c.self.invariant.2.stands
    well can c.site_of.result c.site_of.ensures)

pub move_home-requires-clause-home : goal.move_home-requires-clause-home
move_home-requires-clause-home c = let some : IsSome (Some c.self.invariant.0.table) = refl in subst IsSome
    (sym c.self.invariant.0.is) some

pub move_home-requires-clause-on : goal.move_home-requires-clause-on
move_home-requires-clause-on c =
    let m = c.self.inside.machine in
    let table = c.args.table.now.table in
    let can = subst (λ (h : Homing). CanDecide h.about table (control_seen c.args.control.now))
    (sym c.self.view_is) c.requires.decides in
    let same : c.deref.result.now ≡ c.self.inside.code.value = search rules in
    let well = subst (λ (a : About). IsWellFormed a.sheet) c.about.ensures c.sheet-sheet.ensures.well in
    let found = subst (λ (r : Code). IsPlaceOf (code_seen r) c.site_of.result c.place_of-place.result) same
    c.place_of-place.ensures in
    let site = own_site m.about m.code c.self.inside.code.value
    (control_seen c.args.control.now) c.site_of.result c.place_of-place.result
    c.sites_are_placed.ensures c.self.invariant.2 well c.site_of.ensures found in
    subst (λ (k : Control). IsInMatch (flat_from m.about m.code c.place_of-place.result table k))
    (sym c.write_control.ensures) (site table can).0

-- it is at home, where it stands, at the site
moved : (c : goal.After-write_menu) →
    let m = c.move_home.new.self in
    let stand : Stand = record {
      control = c.write_control.new.to;
      place = c.place_of-place.result;
      menu =
          c.write_menu.new.menu;
    } in
    IsHome m.about m.code m.home stand × (config_at_home m.about m.code m.home stand ≡ m.config)
    × (m.config ≡ at_site c.args.self.now.about c.args.table.now.table (control_seen c.args.control.now))
moved c =
    let m = c.move_home.new.self in
    let stand : Stand = record {
      control = c.write_control.new.to;
      place = c.place_of-place.result;
      menu =
          c.write_menu.new.menu;
    } in
    let about = c.self.inside.machine.about in
    let code = c.self.inside.machine.code in
    let place = c.place_of-place.result in
    let table = c.args.table.now.table in
    let control = control_seen c.args.control.now in
    let can = subst (λ (h : Homing). CanDecide h.about table control) (sym c.self.view_is) c.requires.decides in
    let same : c.deref.result.now ≡ c.self.inside.code.value = search rules in
    let well = subst (λ (a : About). IsWellFormed a.sheet) c.about.ensures c.sheet-sheet.ensures.well in
    let found = subst (λ (r : Code). IsPlaceOf (code_seen r) c.site_of.result place) same c.place_of-place.ensures in
    let site = own_site about code c.self.inside.code.value control c.site_of.result place
    c.sites_are_placed.ensures c.self.invariant.2 well c.site_of.ensures found in
    let there = site table can in
    let is = c.move_home.ensures in
    let config = is.at ∙ ap (λ (k : Control). config_of (flat_from about code place table k)) c.write_control.ensures
    in (
      home_made about code place table control m stand is.about is.code is.home refl c.write_control.ensures config
          there.0 c.write_menu.ensures site,
      home_here about code place table control m stand is.about is.code is.home refl c.write_control.ensures config,
      config ∙ there.1 ∙ ap (λ (h : Homing). at_site h.about table control) c.self.view_is,
    )

pub invariant_of-self : goal.invariant_of-self
invariant_of-self c =
    let is = c.move_home.ensures in (
      (moved c).0,
      is.notes,
      code_stays c.self.inside.machine c.move_home.new.self c.self.inside.code.value is.about
          is.code c.self.invariant.2,
    )

pub returns-clause-home : goal.returns-clause-home
returns-clause-home c = (moved c).1 ∙ (moved c).2

pub returns-clause-at : goal.returns-clause-at
returns-clause-at c = sym (moved c).1
