use Rattle.std.proofs.Common.{◌≡◌, ◌++◌, [], length, map, take, arith, ap, ◌∙◌}
use Rattle.std.proofs.lemmas.List.{length-map, take-map}
use Rattle.rc_play_spec.specs.Menu.{spots_of, item_of, paths_of}
use Rattle.rc_ast.specs.Items.{alt_seen, alts_seen}
use Rattle.rc_rules.specs.Menu.{item_seen, menu_seen}
use Rattle.rc_value.specs.Binding.{BindsFew}
use Rattle.rc_menu.specs.Menu.{extended}
use Rattle.rc_value.specs.Scene.{scene_seen}
use Rattle.rc_rules.proofs.Elements.{map_here, each_here}
use Rattle.rc_menu.proofs.Offers.{begun, offered_alt, offered_alts, offered_full, cut_few}
use Rattle.rc_menu.proofs.menu.offer_all.Goals as goal

pub offer-requires-clause-fits : goal.offer-requires-clause-fits
offer-requires-clause-fits c =
    let few = each_here (BindsFew 0) alt_seen c.args.alts.now c.loop-number.number c.index-alts-number.result c.requires.few c.loop-number-test.true c.index-alts-number.is in
    omega (arith, few.deep, ap length c.empty-scope.ensures)

pub offer-requires-clause-room : goal.offer-requires-clause-room
offer-requires-clause-room c =
    let few = each_here (BindsFew 0) alt_seen c.args.alts.now c.loop-number.number c.index-alts-number.result c.requires.few c.loop-number-test.true c.index-alts-number.is in
    omega (arith, few.long, ap (λ item. length item.spots) c.first_item.ensures)

pub loop-number-preserved : goal.loop-number-preserved
loop-number-preserved c =
    let n = length-map c.args.alts.now alt_seen in
    let grown : menu_seen c.offer.new.menu.items ≡ take 256 (menu_seen c.loop-number.menu.items ++ map (extended (begun c.loop-number.number)) (spots_of (scene_seen c.args.scene.now) [] (alt_seen c.index-alts-number.result))) =
    c.offer.ensures
    ∙ ap (λ item. take 256 (menu_seen c.loop-number.menu.items ++ map (extended item) (spots_of (scene_seen c.args.scene.now) c.empty-scope.result (alt_seen c.index-alts-number.result)))) c.first_item.ensures
    ∙ ap (λ v. take 256 (menu_seen c.loop-number.menu.items ++ map (extended (begun c.loop-number.number)) (spots_of (scene_seen c.args.scene.now) v (alt_seen c.index-alts-number.result)))) c.empty-scope.ensures in
    let few = cut_few (menu_seen c.offer.new.menu.items) _ grown in
    let count = length-map c.offer.new.menu.items item_seen in
    record {
      few = omega arith;
      told =
          offered_alt (spots_of (scene_seen c.args.scene.now) []) (menu_seen c.loop-number.menu.items) (menu_seen c.offer.new.menu.items) _ (alts_seen c.args.alts.now) c.loop-number.number (alt_seen c.index-alts-number.result)
          (omega (arith, c.loop-number-test.true)) (map_here alt_seen c.args.alts.now c.loop-number.number c.index-alts-number.result c.loop-number-test.true c.index-alts-number.is) grown c.loop-number.invariant.told;
    }

pub returns-then-is_filled : goal.returns-then-is_filled
returns-then-is_filled c =
    offered_full (menu_seen c.loop-number.menu.items) _ _ (length-map c.loop-number.menu.items item_seen ∙ c.is_filled.ensures.full c.if-is_filled.true) c.loop-number.invariant.told
    ∙ take-map item_of 256 (paths_of (scene_seen c.args.scene.now) (alts_seen c.args.alts.now))

pub returns : goal.returns
returns c =
    let n = length-map c.args.alts.now alt_seen in
    let count = length-map c.loop-number.menu.items item_seen in
    offered_alts (spots_of (scene_seen c.args.scene.now) []) (menu_seen c.loop-number.menu.items) _ (alts_seen c.args.alts.now) c.loop-number.number
    (omega (arith, c.loop-number-test.false)) (omega (arith, c.loop-number.invariant.few)) c.loop-number.invariant.told
    ∙ take-map item_of 256 (paths_of (scene_seen c.args.scene.now) (alts_seen c.args.alts.now))
