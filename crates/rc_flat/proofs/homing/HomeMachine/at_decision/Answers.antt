use Rattle.std.proofs.Common.{◌≡◌, rules, sym, ap, ◌∙◌, subst}
use Rattle.rc_play_spec.specs.About.{About}
use Rattle.rc_play_spec.specs.Decision.{at_site}
use Rattle.rc_rules.specs.Control.{control_seen}
use Rattle.rc_code.specs.Seen.{list_seen, code_seen}
use Rattle.rc_code.specs.Stands.{StandsFor}
use Rattle.rc_code.specs.declared.code.Code.{Code}
use Rattle.rc_undo.specs.Undo.{Kept}
use Rattle.rc_flat.specs.Flat.{config_of, flat_from}
use Rattle.rc_flat.specs.MarkedMoments.{IsInMatch}
use Rattle.rc_flat.specs.Home.{config_at_home, IsHome}
use Rattle.rc_flat.specs.HomeSeen.{IsCodeOf}
use Rattle.rc_flat.specs.declared.stand.Stand.{Stand}
use Rattle.rc_flat.proofs.SitePlaceLemmas.{HasPlace, IsPlaceOf, decision_has}
use Rattle.rc_flat.proofs.HomeLemmas.{is_at_site, home_made, home_here}
use Rattle.rc_flat.proofs.homing.HomeMachine.at_decision.Goals as goal

pub place_of-place-requires : goal.place_of-place-requires
place_of-place-requires c =
    let same : c.deref.result.now ≡ c.args.code.now.value = search rules in
    subst (λ (raw : Code). HasPlace (code_seen raw) c.site_of.result) (sym same)
    (decision_has c.args.about (code_seen c.args.code.now.value) c.args.table.table (control_seen c.args.control) c.sites_are_placed.ensures c.requires.stands
    c.sheet-sheet.ensures.well c.requires.decides c.site_of.result c.site_of.ensures)

pub at_place-machine-requires-clause-on : goal.at_place-machine-requires-clause-on
at_place-machine-requires-clause-on c =
    let same : c.deref.result.now ≡ c.args.code.now.value = search rules in
    let cloned : c.in_ok-code.code.value ≡ c.args.code.now.value = search rules in
    let found = subst (λ (raw : Code). IsPlaceOf (code_seen raw) c.site_of.result c.place_of-place.result) same c.place_of-place.ensures in
    let site = is_at_site c.args.about (code_seen c.args.code.now.value) (control_seen c.args.control) c.site_of.result c.place_of-place.result
    c.sites_are_placed.ensures c.requires.stands c.sheet-sheet.ensures.well c.site_of.ensures found in
    let there = site c.args.table.table c.requires.decides in
    subst (λ (k : Kept). IsInMatch (flat_from c.args.about (list_seen c.in_ok-code.code.value.list.items) c.place_of-place.result k.laid.table (control_seen c.args.control)))
    (sym c.in_ok-board.ensures)
    (subst (λ (raw : Code). IsInMatch (flat_from c.args.about (list_seen raw.list.items) c.place_of-place.result c.args.table.table (control_seen c.args.control)))
    (sym cloned) there.0)

-- it is at home, where it stands, at the site
made : (c : goal.After-write_menu) →
    let m = c.at_place-machine.result in
    let stand : Stand = record { control = c.copy.result; place = c.copy-2.result; menu = c.write_menu.new.menu } in
    IsHome m.about m.code m.home stand × (config_at_home m.about m.code m.home stand ≡ m.config)
    × (m.config ≡ at_site c.args.about c.args.table.table (control_seen c.args.control))
made c =
    let m = c.at_place-machine.result in
    let stand : Stand = record { control = c.copy.result; place = c.copy-2.result; menu = c.write_menu.new.menu } in
    let about = c.args.about in
    let code = list_seen c.args.code.now.value.list.items in
    let place = c.place_of-place.result in
    let table = c.args.table.table in
    let control = control_seen c.args.control in
    let same : c.deref.result.now ≡ c.args.code.now.value = search rules in
    let cloned : c.in_ok-code.code.value ≡ c.args.code.now.value = search rules in
    let found = subst (λ (raw : Code). IsPlaceOf (code_seen raw) c.site_of.result place) same c.place_of-place.ensures in
    let site = is_at_site about (code_seen c.args.code.now.value) control c.site_of.result place c.sites_are_placed.ensures c.requires.stands
    c.sheet-sheet.ensures.well c.site_of.ensures found in
    let there = site table c.requires.decides in
    let is = c.at_place-machine.ensures in
    let code_is = is.code ∙ ap (λ (raw : Code). list_seen raw.list.items) cloned in
    let home = is.home ∙ ap (λ (k : Kept). k.home) c.in_ok-board.ensures in
    let config = is.at
    ∙ ap (λ (k : Kept). config_of (flat_from about (list_seen c.in_ok-code.code.value.list.items) place k.laid.table control)) c.in_ok-board.ensures
    ∙ ap (λ (raw : Code). config_of (flat_from about (list_seen raw.list.items) place table control)) cloned in (
      home_made about code place table control m stand is.about code_is home c.copy-2.ensures c.copy.ensures config there.0 c.write_menu.ensures site,
      home_here about code place table control m stand is.about code_is home c.copy-2.ensures c.copy.ensures config,
      config ∙ there.1,
    )

pub invariant_of-result : goal.invariant_of-result
invariant_of-result c =
    let is = c.at_place-machine.ensures in
    let kept : c.in_ok-placed.placed.value ≡ c.args.code.now.value = search rules in
    let cloned : c.in_ok-code.code.value ≡ c.args.code.now.value = search rules in
    let placed : IsCodeOf c.at_place-machine.result.about c.at_place-machine.result.code c.in_ok-placed.placed.value =
    record {
      stands = subst (λ (raw : Code). StandsFor c.at_place-machine.result.about.sheet (code_seen raw)) (sym kept)
          (subst (λ (a : About). StandsFor a.sheet (code_seen c.args.code.now.value)) (sym is.about) c.requires.stands);
      same = ap (λ (raw : Code). list_seen raw.list.items) (kept ∙ sym cloned) ∙ sym is.code;
    } in
    ((made c).0, is.notes ∙ ap (λ (k : Kept). k.notes) c.in_ok-board.ensures, placed)

pub returns-clause-home : goal.returns-clause-home
returns-clause-home c = (made c).1 ∙ (made c).2

pub returns-clause-at : goal.returns-clause-at
returns-clause-at c = (made c).2
