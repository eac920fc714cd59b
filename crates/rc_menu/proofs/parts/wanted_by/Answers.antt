use Rattle.std.proofs.Common.{Some, true, refl, sym, subst}
use Rattle.rc_sheet_spec.specs.Sheet.{card_var, cards_in, eq_attr, has_value, top_card}
use Rattle.rc_play_spec.specs.Value.{card_value}
use Rattle.rc_ast.specs.Names.{loc_seen}
use Rattle.rc_code.specs.Guards.{card_test_meant, IsFixedCardTest}
use Rattle.rc_value.specs.Scene.{scene_seen}
use Rattle.rc_value.specs.declared.wanted.SoughtValue.{SoughtValue}
use Rattle.rc_value.specs.Wanted.{IsWantedAt}
use Rattle.rc_value.proofs.WantedLemmas.{wanted_fixed, wanted_named}
use Rattle.rc_menu.proofs.PartLemmas.{fixed_above}
use Rattle.rc_menu.proofs.parts.wanted_by.Goals as goal

pub returns-in-Value : goal.returns-in-Value
returns-in-Value c = λ place.
    let wanted : SoughtValue = record { name = c.in-Value.name; value = Some c.in-Value.value; equal = true } in
    subst (λ card_test. IsWantedAt (scene_seen c.args.scene.now) place (card_test_meant place card_test) wanted)
    (sym c.in-Value.is)
    (wanted_named (scene_seen c.args.scene.now) place (has_value (card_var place) c.in-Value.name c.in-Value.value) (card_var place) c.in-Value.name c.in-Value.value
    (Some wanted) refl refl refl)

pub returns-in-Against : goal.returns-in-Against
returns-in-Against c = λ place.
    let against = loc_seen c.in-Against.against in
    let top = top_card (cards_in against) in
    let wanted : SoughtValue = record { name = c.in-Against.name; value = c.attr_of_id.result; equal = true } in
    subst (λ card_test. IsWantedAt (scene_seen c.args.scene.now) place (card_test_meant place card_test) wanted)
    (sym c.in-Against.is)
    (wanted_fixed (scene_seen c.args.scene.now) place c.args.scope.now (eq_attr (card_var place) c.in-Against.name top c.in-Against.other) (card_var place) top c.in-Against.name c.in-Against.other
    (Some c.attr_of_id.result) (Some wanted) refl refl
    (fixed_above against (subst IsFixedCardTest c.in-Against.is c.requires)) (c.attr_of_id.ensures (card_value (scene_seen c.args.scene.now) c.args.scope.now top) c.top_id.ensures) refl)
