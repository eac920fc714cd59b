use Rattle.std.proofs.Common.{◌+◌, List, Some, length, refl, ap, sym, subst, ◌∙◌}
use Rattle.rc_sheet_spec.specs.Sheet.{cards_in, each_card}
use Rattle.rc_play_spec.specs.Scene.{CardValue}
use Rattle.rc_play_spec.specs.Value.{Bind as PureBind, attr_of_any, both, nat_same}
use Rattle.rc_ast.specs.Names.{loc_seen}
use Rattle.rc_code.specs.Guards.{guard_test_meant, card_test_meant, in_sense, IsFixedGuardTest}
use Rattle.rc_menu.specs.declared.known.AtHand.TheVariants.{OfCard, Holds}
use Rattle.rc_menu.specs.Known.{IsAtHand}
use Rattle.rc_value.specs.Scene.{scene_seen}
use Rattle.rc_menu.proofs.KnownLemmas.{known_there, wanted_opposite}
use Rattle.rc_menu.proofs.PartLemmas.{comparison_known, fixed_above, fixed_who}
use Rattle.rc_menu.proofs.parts.guard_test_at_hand.Goals as goal

pub wanted_by-requires : goal.wanted_by-requires
wanted_by-requires c = subst IsFixedGuardTest c.in-OfCard.is c.requires.fixed

pub wanted_by-plain-requires : goal.wanted_by-plain-requires
wanted_by-plain-requires c = (subst IsFixedGuardTest c.in-Among.is c.requires.fixed).1

pub returns-in-Known : goal.returns-in-Known
returns-in-Known c =
    subst (λ q. IsAtHand (scene_seen c.args.scene.now) c.args.scope.now (guard_test_meant q) (Holds c.comparison_holds.result)) (sym c.in-Known.is)
    (comparison_known (scene_seen c.args.scene.now) c.args.scope.now (length c.args.scope.now + 1) c.in-Known.comparison c.comparison_holds.result
    (subst IsFixedGuardTest c.in-Known.is c.requires.fixed) c.comparison_holds.ensures)

pub returns-in-OfCard : goal.returns-in-OfCard
returns-in-OfCard c =
    subst (λ q. IsAtHand (scene_seen c.args.scene.now) c.args.scope.now (guard_test_meant q) (OfCard c.wanted_by.result)) (sym c.in-OfCard.is)
    (c.wanted_by.ensures 0 c.args.scope.now (ap length c.requires.outside))

pub returns-in-Top : goal.returns-in-Top
returns-in-Top c =
    subst (λ q. IsAtHand (scene_seen c.args.scene.now) c.args.scope.now (guard_test_meant q) (Holds c.top_has.result)) (sym c.in-Top.is)
    (λ vars few.
    ap (λ card. both nat_same (attr_of_any (scene_seen c.args.scene.now) c.in-Top.name card) (Some c.in-Top.value))
    (fixed_above (loc_seen c.in-Top.at) (subst IsFixedGuardTest c.in-Top.is c.requires.fixed) (scene_seen c.args.scene.now) vars c.args.scope.now)
    ∙ sym c.top_has.ensures)

pub returns-in-Among : goal.returns-in-Among
returns-in-Among c =
    let among = loc_seen c.in-Among.among in
    let plain = card_test_meant 1 c.in-Among.card_test in
    let inner = in_sense c.in-Among.sense plain in
    subst (λ q. IsAtHand (scene_seen c.args.scene.now) c.args.scope.now (guard_test_meant q) (Holds c.are_there.result)) (sym c.in-Among.is)
    (λ vars few.
    known_there (scene_seen c.args.scene.now) c.args.scope.now 1 c.in-Among.any (each_card (cards_in among)) inner
    among c.turned_wanted-wanted.result c.are_there.result
    refl (fixed_who among.who (subst IsFixedGuardTest c.in-Among.is c.requires.fixed).0)
    (wanted_opposite (scene_seen c.args.scene.now) 1 c.is_opposite.result plain inner c.wanted_by-plain.result c.turned_wanted-wanted.result
    (c.is_opposite.ensures plain) c.turned_wanted-wanted.ensures (c.wanted_by-plain.ensures 1))
    c.are_there.ensures
    c.in-Among.bound vars (few ∙ ap (λ (xs : List (PureBind CardValue)). length xs + 1) c.requires.outside))
