use Rattle.std.proofs.Common.{◌∷◌, [], cond, map, refl, arith, ◌∙◌}
use Rattle.std.proofs.lemmas.List.{length-map}
use Rattle.rc_rules.specs.Menu.{item_seen, menu_seen}
use Rattle.rc_menu.specs.Asks.{ask_value, joined}
use Rattle.rc_value.specs.Cards.{value_seen}
use Rattle.rc_menu.specs.Menu.{extended}
use Rattle.rc_value.specs.Scene.{scene_seen}
use Rattle.rc_menu.proofs.AskLemmas.{grown_if}
use Rattle.rc_menu.proofs.Offers.{offered, offered_all, offered_full}
use Rattle.rc_menu.proofs.offering.offer_asked.Goals as goal

pub loop-place-preserved : goal.loop-place-preserved
loop-place-preserved c = record {
  free = c.put_at_if.ensures.free c.if-put_at_if.false;
  told =
      offered (λ x. cond (joined c.args.any (map (ask_value (scene_seen c.args.scene.now) c.args.scope.now x) c.args.asks.now)) ([] ∷ []) []) (item_seen c.args.item.now) (extended (item_seen c.args.item.now) (c.loop-place.place ∷ [])) (menu_seen c.loop-place.menu.items) (menu_seen c.put_at_if.new.menu.items) _
      c.args.cards.now c.loop-place.place (value_seen c.at.result) (omega (arith, c.len-place-end.ensures.count))
      c.at.ensures refl
      (grown_if (menu_seen c.loop-place.menu.items) (menu_seen c.put_at_if.new.menu.items) (extended (item_seen c.args.item.now) (c.loop-place.place ∷ [])) c.joined_answer-passes.result _ c.joined_answer-passes.ensures c.put_at_if.ensures.menu)
      c.loop-place.invariant.told;
}

pub returns-then-put_at_if : goal.returns-then-put_at_if
returns-then-put_at_if c =
    offered_full (menu_seen c.put_at_if.new.menu.items) _ _ (length-map c.put_at_if.new.menu.items item_seen ∙ c.put_at_if.ensures.full c.if-put_at_if.true)
    (offered (λ x. cond (joined c.args.any (map (ask_value (scene_seen c.args.scene.now) c.args.scope.now x) c.args.asks.now)) ([] ∷ []) []) (item_seen c.args.item.now) (extended (item_seen c.args.item.now) (c.loop-place.place ∷ [])) (menu_seen c.loop-place.menu.items) (menu_seen c.put_at_if.new.menu.items) _
    c.args.cards.now c.loop-place.place (value_seen c.at.result) (omega (arith, c.len-place-end.ensures.count))
    c.at.ensures refl
    (grown_if (menu_seen c.loop-place.menu.items) (menu_seen c.put_at_if.new.menu.items) (extended (item_seen c.args.item.now) (c.loop-place.place ∷ [])) c.joined_answer-passes.result _ c.joined_answer-passes.ensures c.put_at_if.ensures.menu)
    c.loop-place.invariant.told)

pub returns : goal.returns
returns c =
    let count = length-map c.loop-place.menu.items item_seen in
    offered_all (λ x. cond (joined c.args.any (map (ask_value (scene_seen c.args.scene.now) c.args.scope.now x) c.args.asks.now)) ([] ∷ []) []) (item_seen c.args.item.now) (menu_seen c.loop-place.menu.items) _ c.args.cards.now c.loop-place.place
    (omega (arith, c.len-place-end.ensures.count))
    (omega (arith, c.loop-place.invariant.free)) c.loop-place.invariant.told
