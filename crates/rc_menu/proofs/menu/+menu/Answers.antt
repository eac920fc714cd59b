use Rattle.std.proofs.Common.{◌≡◌, ℕ, List, ◌<◌, ◌++◌, ◌∷◌, [], cond, length, map, take, arith, ap, sym, ◌∙◌}
use Rattle.std.proofs.lemmas.List.{length-map}
use Rattle.rc_base.specs.Numbers.{below}
use Rattle.rc_deck.proofs.RangeLemmas.{below_length}
use Rattle.rc_sheet_spec.specs.Sheet.{any_alt, each_player, each_card, each_group}
use Rattle.rc_play_spec.specs.Scene.{CardValue}
use Rattle.rc_play_spec.specs.Value.{Bind as PureBind, card_bound, player_bound, group_bound, coll_value, groups_by}
use Rattle.rc_play_spec.specs.Menu.{spots_of, from_each}
use Rattle.rc_ast.specs.Expressions.{domain_seen, coll_seen, test_seen}
use Rattle.rc_ast.specs.Items.{alt_seen}
use Rattle.rc_value.specs.Cards.{value_seen, values_seen}
use Rattle.rc_value.specs.Scene.{scene_seen}
use Rattle.rc_value.specs.Groups.{with_value}
use Rattle.rc_rules.specs.Menu.{item_seen, menu_seen}
use Rattle.rc_menu.specs.Menu.{extended}
use Rattle.rc_menu.specs.Asks.{told_of}
use Rattle.rc_rules.proofs.Elements.{map_here}
use Rattle.rc_value.proofs.Steps.{players_are, player_here}
use Rattle.rc_menu.proofs.Offers.{offered_do, offered_if, offered, offered_all, offered_full, counted_each, alike_each, alike_none, put_nothing, cut_few, bound_count}
use Rattle.rc_menu.proofs.menu.+menu.Goals as goal

pub offer_each-loop-place-preserved : goal.offer_each-loop-place-preserved
offer_each-loop-place-preserved t c =
    let n = length-map c.args.cards.now (λ x. card_bound x) in
    let grown : menu_seen c.offer.new.menu.items ≡ take 256 (menu_seen c.loop-place.menu.items ++ map (extended (item_seen c.with_spot.result)) (spots_of (scene_seen c.args.scene.now) (c.args.scope.now ++ card_bound (value_seen c.at.result) ∷ []) (alt_seen c.args.inner.now))) =
    c.offer.ensures
    ∙ ap (λ v. take 256 (menu_seen c.loop-place.menu.items ++ map (extended (item_seen c.with_spot.result)) (spots_of (scene_seen c.args.scene.now) v (alt_seen c.args.inner.now)))) c.with.ensures in
    let few = cut_few (menu_seen c.offer.new.menu.items) _ grown in
    let count = length-map c.offer.new.menu.items item_seen in
    record {
      few = omega arith;
      told =
          offered (λ m. spots_of (scene_seen c.args.scene.now) (c.args.scope.now ++ m ∷ []) (alt_seen c.args.inner.now)) (item_seen c.args.item.now) (item_seen c.with_spot.result) (menu_seen c.loop-place.menu.items) (menu_seen c.offer.new.menu.items)
          (take 256 (menu_seen c.args.menu.now.items ++ map (extended (item_seen c.args.item.now)) (from_each (λ m. spots_of (scene_seen c.args.scene.now) (c.args.scope.now ++ m ∷ []) (alt_seen c.args.inner.now)) 0 (map (λ x. card_bound x) c.args.cards.now))))
          (map (λ x. card_bound x) c.args.cards.now) c.loop-place.place (card_bound (value_seen c.at.result)) (omega (arith, c.len-place-end.ensures.count)) (map_here (λ x. card_bound x) c.args.cards.now c.loop-place.place (value_seen c.at.result) (omega (arith, c.len-place-end.ensures.count)) c.at.ensures) c.with_spot.ensures grown c.loop-place.invariant.told;
    }

pub offer_each-returns-then-is_filled : goal.offer_each-returns-then-is_filled
offer_each-returns-then-is_filled t c =
    let n = length-map c.loop-place.menu.items item_seen in
    offered_full (menu_seen c.loop-place.menu.items) _ _ (n ∙ c.is_filled.ensures.full c.if-is_filled.true) c.loop-place.invariant.told

pub offer_each-returns : goal.offer_each-returns
offer_each-returns t c =
    let n = length-map c.args.cards.now (λ x. card_bound x) in
    let count = length-map c.loop-place.menu.items item_seen in
    offered_all (λ m. spots_of (scene_seen c.args.scene.now) (c.args.scope.now ++ m ∷ []) (alt_seen c.args.inner.now)) (item_seen c.args.item.now) (menu_seen c.loop-place.menu.items) _
    (map (λ x. card_bound x) c.args.cards.now) c.loop-place.place (omega arith) (omega arith) c.loop-place.invariant.told

pub offer_each_player-loop-player-preserved : goal.offer_each_player-loop-player-preserved
offer_each_player-loop-player-preserved t c =
    let n = bound_count c.args.scene.now.sheet.now.players in
    let grown : menu_seen c.offer.new.menu.items ≡ take 256 (menu_seen c.loop-player.menu.items ++ map (extended (item_seen c.with_spot.result)) (spots_of (scene_seen c.args.scene.now) (c.args.scope.now ++ player_bound c.loop-player.player ∷ []) (alt_seen c.args.inner.now))) =
    c.offer.ensures
    ∙ ap (λ v. take 256 (menu_seen c.loop-player.menu.items ++ map (extended (item_seen c.with_spot.result)) (spots_of (scene_seen c.args.scene.now) v (alt_seen c.args.inner.now)))) c.with.ensures in
    let few = cut_few (menu_seen c.offer.new.menu.items) _ grown in
    let count = length-map c.offer.new.menu.items item_seen in
    record {
      few = omega arith;
      told =
          offered (λ m. spots_of (scene_seen c.args.scene.now) (c.args.scope.now ++ m ∷ []) (alt_seen c.args.inner.now)) (item_seen c.args.item.now) (item_seen c.with_spot.result) (menu_seen c.loop-player.menu.items) (menu_seen c.offer.new.menu.items)
          (take 256 (menu_seen c.args.menu.now.items ++ map (extended (item_seen c.args.item.now)) (from_each (λ m. spots_of (scene_seen c.args.scene.now) (c.args.scope.now ++ m ∷ []) (alt_seen c.args.inner.now)) 0 (map (λ x. player_bound x) (below c.args.scene.now.sheet.now.players)))))
          (map (λ x. player_bound x) (below c.args.scene.now.sheet.now.players)) c.loop-player.player (player_bound c.loop-player.player) (omega (arith, below_length c.args.scene.now.sheet.now.players)) (map_here (λ x. player_bound x) (below c.args.scene.now.sheet.now.players) c.loop-player.player c.loop-player.player (omega (arith, below_length c.args.scene.now.sheet.now.players)) (player_here c.args.scene.now.sheet.now.players c.loop-player.player c.loop-player-test.true)) c.with_spot.ensures grown c.loop-player.invariant.told;
    }

pub offer_each_player-returns-then-is_filled : goal.offer_each_player-returns-then-is_filled
offer_each_player-returns-then-is_filled t c =
    let n = length-map c.loop-player.menu.items item_seen in
    offered_full (menu_seen c.loop-player.menu.items) _ _ (n ∙ c.is_filled.ensures.full c.if-is_filled.true) c.loop-player.invariant.told
    ∙ ap (λ k. take 256 (menu_seen c.args.menu.now.items ++ map (extended (item_seen c.args.item.now)) (from_each (λ m. spots_of (scene_seen c.args.scene.now) (c.args.scope.now ++ m ∷ []) (alt_seen c.args.inner.now)) 0 (map (λ x. player_bound x) (below k))))) (sym (players_are c.args.scene.now))

pub offer_each_player-returns : goal.offer_each_player-returns
offer_each_player-returns t c =
    let n = bound_count c.args.scene.now.sheet.now.players in
    let count = length-map c.loop-player.menu.items item_seen in
    offered_all (λ m. spots_of (scene_seen c.args.scene.now) (c.args.scope.now ++ m ∷ []) (alt_seen c.args.inner.now)) (item_seen c.args.item.now) (menu_seen c.loop-player.menu.items) _
    (map (λ x. player_bound x) (below c.args.scene.now.sheet.now.players)) c.loop-player.player (omega arith) (omega arith) c.loop-player.invariant.told
    ∙ ap (λ k. take 256 (menu_seen c.args.menu.now.items ++ map (extended (item_seen c.args.item.now)) (from_each (λ m. spots_of (scene_seen c.args.scene.now) (c.args.scope.now ++ m ∷ []) (alt_seen c.args.inner.now)) 0 (map (λ x. player_bound x) (below k))))) (sym (players_are c.args.scene.now))

pub offer-returns-in-Players : goal.offer-returns-in-Players
offer-returns-in-Players t c =
    let e : alt_seen c.args.alt.now ≡ any_alt each_player c.in-Any.field-1 (alt_seen c.in-Any.inner.value) =
    ap alt_seen c.in-Any.is ∙ ap (λ x. any_alt (domain_seen x) c.in-Any.field-1 (alt_seen c.in-Any.inner.value)) c.in-Players.is in
    c.offer_players.ensures
    ∙ ap (λ x. take 256 (menu_seen c.args.menu.now.items ++ map (extended (item_seen c.args.item.now)) (from_each (λ m. spots_of (scene_seen c.args.scene.now) (c.args.scope.now ++ m ∷ []) (alt_seen x)) 0 (map (λ k. player_bound k) (below (scene_seen c.args.scene.now).known.sheet.players))))) c.deref-in-Players.ensures
    ∙ ap (λ a. take 256 (menu_seen c.args.menu.now.items ++ map (extended (item_seen c.args.item.now)) (spots_of (scene_seen c.args.scene.now) c.args.scope.now a))) (sym e)

pub offer-returns-in-Coll : goal.offer-returns-in-Coll
offer-returns-in-Coll t c =
    let e : alt_seen c.args.alt.now ≡ any_alt (each_card (coll_seen c.in-Coll.cards)) c.in-Any.field-1 (alt_seen c.in-Any.inner.value) =
    ap alt_seen c.in-Any.is ∙ ap (λ x. any_alt (domain_seen x) c.in-Any.field-1 (alt_seen c.in-Any.inner.value)) c.in-Coll.is in
    c.offer_over.ensures
    ∙ ap (λ x. take 256 (menu_seen c.args.menu.now.items ++ map (extended (item_seen c.args.item.now)) (from_each (λ m. spots_of (scene_seen c.args.scene.now) (c.args.scope.now ++ m ∷ []) (alt_seen x)) 0 (map (λ k. card_bound k) (coll_value (scene_seen c.args.scene.now) c.args.scope.now (coll_seen c.in-Coll.cards)))))) c.deref-in-Coll.ensures
    ∙ ap (λ a. take 256 (menu_seen c.args.menu.now.items ++ map (extended (item_seen c.args.item.now)) (spots_of (scene_seen c.args.scene.now) c.args.scope.now a))) (sym e)

pub offer-returns-in-Parts : goal.offer-returns-in-Parts
offer-returns-in-Parts t c =
    let e : alt_seen c.args.alt.now ≡ any_alt (each_group (coll_seen c.in-Parts.cards) c.in-Parts.name) c.in-Any.field-1 (alt_seen c.in-Any.inner.value) =
    ap alt_seen c.in-Any.is ∙ ap (λ x. any_alt (domain_seen x) c.in-Any.field-1 (alt_seen c.in-Any.inner.value)) c.in-Parts.is in
    c.offer_parts.ensures
    ∙ ap (λ x. take 256 (menu_seen c.args.menu.now.items ++ map (extended (item_seen c.args.item.now)) (from_each (λ m. spots_of (scene_seen c.args.scene.now) (c.args.scope.now ++ m ∷ []) (alt_seen x)) 0 (map (λ k. group_bound k) (groups_by (scene_seen c.args.scene.now) c.in-Parts.name (coll_value (scene_seen c.args.scene.now) c.args.scope.now (coll_seen c.in-Parts.cards))))))) c.deref-in-Parts.ensures
    ∙ ap (λ a. take 256 (menu_seen c.args.menu.now.items ++ map (extended (item_seen c.args.item.now)) (spots_of (scene_seen c.args.scene.now) c.args.scope.now a))) (sym e)

pub offer_each_group-loop-place-preserved : goal.offer_each_group-loop-place-preserved
offer_each_group-loop-place-preserved t c =
    let k = length-map c.note_values.new.values.items (with_value (scene_seen c.args.scene.now) c.args.name c.of_cards-all.result) in
    let n = length-map (map (with_value (scene_seen c.args.scene.now) c.args.name c.of_cards-all.result) c.note_values.new.values.items) (λ x. group_bound x) in
    let grown : menu_seen c.offer_group.new.menu.items ≡ take 256 (menu_seen c.loop-place.menu.items ++ map (extended (item_seen c.with_spot.result)) (spots_of (scene_seen c.args.scene.now) (c.args.scope.now ++ group_bound ((with_value (scene_seen c.args.scene.now) c.args.name c.of_cards-all.result) c.value_at.result) ∷ []) (alt_seen c.args.inner.now))) =
    c.offer_group.ensures
    ∙ ap (λ xs. take 256 (menu_seen c.loop-place.menu.items ++ map (extended (item_seen c.with_spot.result)) (spots_of (scene_seen c.args.scene.now) (c.args.scope.now ++ group_bound xs ∷ []) (alt_seen c.args.inner.now)))) c.regroup.ensures in
    let few = cut_few (menu_seen c.offer_group.new.menu.items) _ grown in
    let count = length-map c.offer_group.new.menu.items item_seen in
    let lt : c.loop-place.place < length c.note_values.new.values.items = omega (arith, c.len-place-end.ensures.value) in
    record {
      few = omega arith;
      told =
          offered (λ m. spots_of (scene_seen c.args.scene.now) (c.args.scope.now ++ m ∷ []) (alt_seen c.args.inner.now)) (item_seen c.args.item.now) (item_seen c.with_spot.result) (menu_seen c.loop-place.menu.items) (menu_seen c.offer_group.new.menu.items)
          (take 256 (menu_seen c.args.menu.now.items ++ map (extended (item_seen c.args.item.now)) (from_each (λ m. spots_of (scene_seen c.args.scene.now) (c.args.scope.now ++ m ∷ []) (alt_seen c.args.inner.now)) 0 (map (λ x. group_bound x) (map (with_value (scene_seen c.args.scene.now) c.args.name c.of_cards-all.result) c.note_values.new.values.items)))))
          (map (λ x. group_bound x) (map (with_value (scene_seen c.args.scene.now) c.args.name c.of_cards-all.result) c.note_values.new.values.items)) c.loop-place.place (group_bound ((with_value (scene_seen c.args.scene.now) c.args.name c.of_cards-all.result) c.value_at.result)) (omega arith)
          (map_here (λ x. group_bound x) (map (with_value (scene_seen c.args.scene.now) c.args.name c.of_cards-all.result) c.note_values.new.values.items) c.loop-place.place ((with_value (scene_seen c.args.scene.now) c.args.name c.of_cards-all.result) c.value_at.result) (omega arith)
          (map_here (with_value (scene_seen c.args.scene.now) c.args.name c.of_cards-all.result) c.note_values.new.values.items c.loop-place.place c.value_at.result lt c.value_at.ensures)) c.with_spot.ensures grown c.loop-place.invariant.told;
    }

pub offer_each_group-returns-then-is_filled : goal.offer_each_group-returns-then-is_filled
offer_each_group-returns-then-is_filled t c =
    let n = length-map c.loop-place.menu.items item_seen in
    let b : c.of_cards-all.result ≡ coll_value (scene_seen c.args.scene.now) c.args.scope.now (coll_seen c.args.cards.now) =
    c.of_cards-all.ensures ∙ ap values_seen c.as_slice.ensures.value ∙ c.coll_of.ensures in
    offered_full (menu_seen c.loop-place.menu.items) _ _ (n ∙ c.is_filled.ensures.full c.if-is_filled.true) c.loop-place.invariant.told
    ∙ ap (λ xs. take 256 (menu_seen c.args.menu.now.items ++ map (extended (item_seen c.args.item.now)) (from_each (λ m. spots_of (scene_seen c.args.scene.now) (c.args.scope.now ++ m ∷ []) (alt_seen c.args.inner.now)) 0 (map (λ x. group_bound x) (map (with_value (scene_seen c.args.scene.now) c.args.name c.of_cards-all.result) xs))))) c.note_values.ensures
    ∙ ap (λ xs. take 256 (menu_seen c.args.menu.now.items ++ map (extended (item_seen c.args.item.now)) (from_each (λ m. spots_of (scene_seen c.args.scene.now) (c.args.scope.now ++ m ∷ []) (alt_seen c.args.inner.now)) 0 (map (λ x. group_bound x) (groups_by (scene_seen c.args.scene.now) c.args.name xs))))) b

pub offer_each_group-returns : goal.offer_each_group-returns
offer_each_group-returns t c =
    let k = length-map c.note_values.new.values.items (with_value (scene_seen c.args.scene.now) c.args.name c.of_cards-all.result) in
    let n = length-map (map (with_value (scene_seen c.args.scene.now) c.args.name c.of_cards-all.result) c.note_values.new.values.items) (λ x. group_bound x) in
    let count = length-map c.loop-place.menu.items item_seen in
    let b : c.of_cards-all.result ≡ coll_value (scene_seen c.args.scene.now) c.args.scope.now (coll_seen c.args.cards.now) =
    c.of_cards-all.ensures ∙ ap values_seen c.as_slice.ensures.value ∙ c.coll_of.ensures in
    offered_all (λ m. spots_of (scene_seen c.args.scene.now) (c.args.scope.now ++ m ∷ []) (alt_seen c.args.inner.now)) (item_seen c.args.item.now) (menu_seen c.loop-place.menu.items) _
    (map (λ x. group_bound x) (map (with_value (scene_seen c.args.scene.now) c.args.name c.of_cards-all.result) c.note_values.new.values.items)) c.loop-place.place (omega (arith, c.len-place-end.ensures.value)) (omega arith) c.loop-place.invariant.told
    ∙ ap (λ xs. take 256 (menu_seen c.args.menu.now.items ++ map (extended (item_seen c.args.item.now)) (from_each (λ m. spots_of (scene_seen c.args.scene.now) (c.args.scope.now ++ m ∷ []) (alt_seen c.args.inner.now)) 0 (map (λ x. group_bound x) (map (with_value (scene_seen c.args.scene.now) c.args.name c.of_cards-all.result) xs))))) c.note_values.ensures
    ∙ ap (λ xs. take 256 (menu_seen c.args.menu.now.items ++ map (extended (item_seen c.args.item.now)) (from_each (λ m. spots_of (scene_seen c.args.scene.now) (c.args.scope.now ++ m ∷ []) (alt_seen c.args.inner.now)) 0 (map (λ x. group_bound x) (groups_by (scene_seen c.args.scene.now) c.args.name xs))))) b

pub offer_cards-returns-in-Do : goal.offer_cards-returns-in-Do
offer_cards-returns-in-Do t c =
    c.offer_count.ensures
    ∙ ap (λ ps. take 256 (menu_seen c.args.menu.now.items ++ map (extended (item_seen c.args.item.now)) ps))
    (counted_each c.len.result c.args.cards.now c.len.ensures.count
    ∙ offered_do (scene_seen c.args.scene.now) c.args.scope.now (alt_seen c.args.inner.now) _ c.args.cards.now (ap alt_seen c.in-Do.is))

pub offer_cards-returns-in-If : goal.offer_cards-returns-in-If
offer_cards-returns-in-If t c =
    c.offer_guarded.ensures
    ∙ ap (λ x. take 256 (menu_seen c.args.menu.now.items ++ map (extended (item_seen c.args.item.now)) (from_each (λ k. cond (told_of (scene_seen c.args.scene.now) c.args.scope.now (test_seen x) k) ([] ∷ []) []) 0 c.args.cards.now))) c.deref.ensures
    ∙ ap (λ ps. take 256 (menu_seen c.args.menu.now.items ++ map (extended (item_seen c.args.item.now)) ps))
    (offered_if (scene_seen c.args.scene.now) c.args.scope.now (alt_seen c.args.inner.now) _ _ c.args.cards.now (ap alt_seen c.in-If.is))

pub offer_players-returns-then-passes : goal.offer_players-returns-then-passes
offer_players-returns-then-passes t c =
    let g : PureBind CardValue → List (List ℕ) = λ m. spots_of (scene_seen c.args.scene.now) (c.args.scope.now ++ m ∷ []) (alt_seen c.args.inner.now) in
    let n = (scene_seen c.args.scene.now).known.sheet.players in
    c.offer_count.ensures
    ∙ ap (λ ps. take 256 (menu_seen c.args.menu.now.items ++ map (extended (item_seen c.args.item.now)) ps))
    (counted_each c.args.scene.now.sheet.now.players (map {B = PureBind CardValue} (λ x. player_bound x) (below n)) (sym (players_are c.args.scene.now) ∙ sym (bound_count n))
    ∙ alike_each g c.in-Some.passes (map (λ x. player_bound x) (below n)) c.in-Some.ensures c.if-passes.true)

pub offer_players-returns-else-passes : goal.offer_players-returns-else-passes
offer_players-returns-else-passes t c =
    let g : PureBind CardValue → List (List ℕ) = λ m. spots_of (scene_seen c.args.scene.now) (c.args.scope.now ++ m ∷ []) (alt_seen c.args.inner.now) in
    let count = length-map c.args.menu.now.items item_seen in
    put_nothing (menu_seen c.args.menu.now.items) (omega (arith, c.requires.free))
    ∙ ap (λ ps. take 256 (menu_seen c.args.menu.now.items ++ map (extended (item_seen c.args.item.now)) ps))
    (alike_none g c.in-Some.passes (map (λ x. player_bound x) (below (scene_seen c.args.scene.now).known.sheet.players)) c.in-Some.ensures c.if-passes.false)

pub offer_parts-returns-then-passes : goal.offer_parts-returns-then-passes
offer_parts-returns-then-passes t c =
    let g : PureBind CardValue → List (List ℕ) = λ m. spots_of (scene_seen c.args.scene.now) (c.args.scope.now ++ m ∷ []) (alt_seen c.args.inner.now) in
    let groups = groups_by (scene_seen c.args.scene.now) c.args.name (coll_value (scene_seen c.args.scene.now) c.args.scope.now (coll_seen c.args.cards.now)) in
    c.offer_count.ensures
    ∙ ap (λ ps. take 256 (menu_seen c.args.menu.now.items ++ map (extended (item_seen c.args.item.now)) ps))
    (counted_each c.groups_of.result (map {B = PureBind CardValue} (λ x. group_bound x) groups) (c.groups_of.ensures.count ∙ sym (length-map {B = PureBind CardValue} groups (λ x. group_bound x)))
    ∙ alike_each g c.in-Some.passes (map (λ x. group_bound x) groups) c.in-Some.ensures c.if-passes.true)

pub offer_parts-returns-else-passes : goal.offer_parts-returns-else-passes
offer_parts-returns-else-passes t c =
    let g : PureBind CardValue → List (List ℕ) = λ m. spots_of (scene_seen c.args.scene.now) (c.args.scope.now ++ m ∷ []) (alt_seen c.args.inner.now) in
    let count = length-map c.args.menu.now.items item_seen in
    put_nothing (menu_seen c.args.menu.now.items) (omega (arith, c.requires.free))
    ∙ ap (λ ps. take 256 (menu_seen c.args.menu.now.items ++ map (extended (item_seen c.args.item.now)) ps))
    (alike_none g c.in-Some.passes (map (λ x. group_bound x) (groups_by (scene_seen c.args.scene.now) c.args.name (coll_value (scene_seen c.args.scene.now) c.args.scope.now (coll_seen c.args.cards.now)))) c.in-Some.ensures c.if-passes.false)
