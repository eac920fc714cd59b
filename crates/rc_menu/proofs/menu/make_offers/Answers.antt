use Rattle.std.proofs.Common.{◌≡◌, ◌++◌, [], map, take, arith, ap, sym, subst, ◌∙◌}
use Rattle.std.proofs.lemmas.List.{length-map, take-map}
use Rattle.rc_play_spec.specs.Menu.{spots_of, item_of, paths_of}
use Rattle.rc_rules.specs.Menu.{item_seen, menu_seen}
use Rattle.rc_value.specs.Binding.{BindsFew}
use Rattle.rc_menu.specs.Menu.{extended}
use Rattle.rc_value.specs.Scene.{scene_seen}
use Rattle.rc_menu.proofs.Offers.{begun, offered_alt, offered_alts, offered_full, cut_few}
use Rattle.rc_menu.proofs.menu.make_offers.Goals as goal

pub make_offer-requires-clause-few : goal.make_offer-requires-clause-few
make_offer-requires-clause-few c =
    subst (BindsFew 0) (sym c.index-offers-number.is) (c.requires.few c.loop-number.number c.index-offers-number.result c.loop-number-test.true)

pub make_offer-requires-clause-bare : goal.make_offer-requires-clause-bare
make_offer-requires-clause-bare c = ap (λ item. item.spots) c.first_item.ensures

pub loop-number-preserved : goal.loop-number-preserved
loop-number-preserved c =
    let grown : menu_seen c.make_offer.new.menu.items ≡ take 256 (menu_seen c.loop-number.menu.items ++ map (extended (begun c.loop-number.number)) (spots_of (scene_seen c.args.scene.now) [] c.index-offers-number.result)) =
    c.make_offer.ensures
    ∙ ap (λ item. take 256 (menu_seen c.loop-number.menu.items ++ map (extended item) (spots_of (scene_seen c.args.scene.now) c.empty-scope.result c.index-offers-number.result))) c.first_item.ensures
    ∙ ap (λ v. take 256 (menu_seen c.loop-number.menu.items ++ map (extended (begun c.loop-number.number)) (spots_of (scene_seen c.args.scene.now) v c.index-offers-number.result))) c.empty-scope.ensures in
    let few = cut_few (menu_seen c.make_offer.new.menu.items) _ grown in
    let count = length-map c.make_offer.new.menu.items item_seen in
    record {
      few = omega arith;
      told =
          offered_alt (spots_of (scene_seen c.args.scene.now) []) (menu_seen c.loop-number.menu.items) (menu_seen c.make_offer.new.menu.items) _ c.args.offers.now c.loop-number.number c.index-offers-number.result
          c.loop-number-test.true c.index-offers-number.is grown c.loop-number.invariant.told;
    }

pub returns-then-is_filled : goal.returns-then-is_filled
returns-then-is_filled c =
    offered_full (menu_seen c.loop-number.menu.items) _ _ (length-map c.loop-number.menu.items item_seen ∙ c.is_filled.ensures.full c.if-is_filled.true) c.loop-number.invariant.told
    ∙ take-map item_of 256 (paths_of (scene_seen c.args.scene.now) c.args.offers.now)

pub returns : goal.returns
returns c =
    let count = length-map c.loop-number.menu.items item_seen in
    offered_alts (spots_of (scene_seen c.args.scene.now) []) (menu_seen c.loop-number.menu.items) _ c.args.offers.now c.loop-number.number
    c.loop-number-test.false (omega (arith, c.loop-number.invariant.few)) c.loop-number.invariant.told
    ∙ take-map item_of 256 (paths_of (scene_seen c.args.scene.now) c.args.offers.now)
