use Rattle.std.proofs.Common.{◌≡◌, rules, sym, ap, ◌∙◌, subst}
use Rattle.rc_rules.specs.Control.{control_seen}
use Rattle.rc_code.specs.Seen.{list_seen, code_seen}
use Rattle.rc_code.specs.declared.code.Code.{Code}
use Rattle.rc_undo.specs.Undo.{Kept}
use Rattle.rc_flat.specs.Flat.{config_of, flat_from}
use Rattle.rc_flat.specs.MarkedMoments.{IsInMatch}
use Rattle.rc_flat.proofs.SitePlaceLemmas.{HasPlace, IsPlaceOf, decision_has, decision_match}
use Rattle.rc_flat.proofs.machine.FlatMachine.at_decision.Goals as goal

pub place_of-place-requires : goal.place_of-place-requires
place_of-place-requires c =
    let same : c.deref.result.now ≡ c.args.code.now.value = search rules in
    subst (λ (raw : Code). HasPlace (code_seen raw) c.site_of.result) (sym same)
    (decision_has c.args.about (code_seen c.args.code.now.value) c.args.table.table (control_seen c.args.control) c.sites_are_placed.ensures c.requires.stands
    c.sheet-sheet.ensures.well c.requires.decides c.site_of.result c.site_of.ensures)

pub at_place-requires-clause-on : goal.at_place-requires-clause-on
at_place-requires-clause-on c =
    let same : c.deref.result.now ≡ c.args.code.now.value = search rules in
    let cloned : c.in_ok-code.code.value ≡ c.args.code.now.value = search rules in
    let found = subst (λ (raw : Code). IsPlaceOf (code_seen raw) c.site_of.result c.place_of-place.result) same c.place_of-place.ensures in
    let there = decision_match c.args.about (code_seen c.args.code.now.value) c.args.table.table (control_seen c.args.control) c.sites_are_placed.ensures
    c.requires.stands c.sheet-sheet.ensures.well c.requires.decides c.site_of.result c.place_of-place.result c.site_of.ensures found in
    subst (λ (k : Kept). IsInMatch (flat_from c.args.about (list_seen c.in_ok-code.code.value.list.items) c.place_of-place.result k.laid.table (control_seen c.args.control)))
    (sym c.new-board.ensures)
    (subst (λ (raw : Code). IsInMatch (flat_from c.args.about (list_seen raw.list.items) c.place_of-place.result c.args.table.table (control_seen c.args.control)))
    (sym cloned) there.0)

pub returns-clause-at : goal.returns-clause-at
returns-clause-at c =
    let same : c.deref.result.now ≡ c.args.code.now.value = search rules in
    let cloned : c.in_ok-code.code.value ≡ c.args.code.now.value = search rules in
    let found = subst (λ (raw : Code). IsPlaceOf (code_seen raw) c.site_of.result c.place_of-place.result) same c.place_of-place.ensures in
    let there = decision_match c.args.about (code_seen c.args.code.now.value) c.args.table.table (control_seen c.args.control) c.sites_are_placed.ensures
    c.requires.stands c.sheet-sheet.ensures.well c.requires.decides c.site_of.result c.place_of-place.result c.site_of.ensures found in
    c.at_place.ensures.at
    ∙ ap (λ (k : Kept). config_of (flat_from c.args.about (list_seen c.in_ok-code.code.value.list.items) c.place_of-place.result k.laid.table (control_seen c.args.control))) c.new-board.ensures
    ∙ ap (λ (raw : Code). config_of (flat_from c.args.about (list_seen raw.list.items) c.place_of-place.result c.args.table.table (control_seen c.args.control))) cloned
    ∙ there.1
