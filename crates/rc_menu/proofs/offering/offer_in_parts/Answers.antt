use Rattle.std.proofs.Common.{◌≡◌, ◌++◌, ◌∷◌, [], cond, length, map, take, subst, sym, ap, ◌∙◌}
use Rattle.std.specs.Prelude.{MatchOption}
use Rattle.std.proofs.lemmas.Bool.{eqb-true}
use Rattle.std.proofs.lemmas.List.{length-map}
use Rattle.rc_sheet_spec.specs.Sheet.{cards_in}
use Rattle.rc_base.specs.Numbers.{below}
use Rattle.rc_deck.proofs.RangeLemmas.{below_length}
use Rattle.rc_play_spec.specs.Menu.{from_each}
use Rattle.rc_play_spec.specs.Scene.{id_of}
use Rattle.rc_play_spec.specs.Value.{coll_value}
use Rattle.rc_ast.specs.Names.{loc_seen}
use Rattle.rc_code.specs.Guards.{guard_meant}
use Rattle.rc_rules.specs.Menu.{item_seen, menu_seen}
use Rattle.rc_menu.specs.Asks.{ask_value, joined, met_value, told_of}
use Rattle.rc_menu.specs.Following.{Follows}
use Rattle.rc_menu.specs.Menu.{extended}
use Rattle.rc_value.specs.Scene.{scene_seen}
use Rattle.rc_menu.proofs.FollowingLemmas.{nothing_asked, settled_told, then_offers, whole_told}
use Rattle.rc_menu.proofs.RowOffers.{asked_offers, part_offers, settled_offers}
use Rattle.rc_menu.proofs.offering.offer_in_parts.Goals as goal

pub returns-then-settled-clause-done : goal.returns-then-settled-clause-done
returns-then-settled-clause-done c = λ so.
    let s = scene_seen c.args.scene.now in
    let cards = coll_value s c.args.scope.now (cards_in (loc_seen c.args.guard.now.loc)) in
    let any = c.is_one_enough-any.result in
    let asks = c.parts_settle.new.asks.items in
    c.offer_all_if.ensures
    ∙ ap (λ ps. take 256 (menu_seen c.args.menu.now.items ++ map (extended (item_seen c.args.item.now)) ps))
    (settled_offers any (told_of s c.args.scope.now (guard_meant c.args.guard.now))
    (below (length c.ids_of-ids.result.now)) cards
    (below_length (length c.ids_of-ids.result.now) ∙ ap length c.ids_of-ids.ensures.ids ∙ length-map cards id_of)
    (λ card. settled_told s c.args.scope.now c.args.guard.now c.split_of-split.result.parts.now
    c.split_of-split.result.then (λ t. t.now) any c.in-Some.settled asks
    c.requires.outside c.split_of-split.ensures.split c.is_one_enough-any.ensures c.if-settled.true
    c.in-Some.ensures.joined card
    ∙ ap (λ b. cond b any (joined any (map (ask_value s c.args.scope.now card) asks))) c.if-settled.true))

pub returns-then-is_empty-clause-done : goal.returns-then-is_empty-clause-done
returns-then-is_empty-clause-done c = λ so.
    let s = scene_seen c.args.scene.now in
    let cards = coll_value s c.args.scope.now (cards_in (loc_seen c.args.guard.now.loc)) in
    let parts = c.split_of-split.result.parts.now in
    let any = c.is_one_enough-any.result in
    let asks = c.parts_settle.new.asks.items in
    c.offer_passing.ensures.done so cards c.ids_of-ids.ensures.ids
    ∙ ap (λ ps. take 256 (menu_seen c.args.menu.now.items ++ map (extended (item_seen c.args.item.now)) ps))
    (then_offers s c.args.scope.now c.args.guard.now parts c.in-Some-then.card_test.now any c.in-Some.settled asks
    c.requires.outside
    (subst (λ then. MatchOption then (parts ≡ c.args.guard.now.parts.items)
    (λ t. Follows c.args.guard.now parts t.now)) c.in-Some-then.is c.split_of-split.ensures.split)
    c.is_one_enough-any.ensures c.if-settled.false (nothing_asked asks
    (eqb-true _ _ (sym c.is_empty.ensures ∙ c.if-is_empty.true))) c.in-Some.ensures.joined)

pub returns-in-None-clause-done : goal.returns-in-None-clause-done
returns-in-None-clause-done c = λ so.
    let s = scene_seen c.args.scene.now in
    let cards = coll_value s c.args.scope.now (cards_in (loc_seen c.args.guard.now.loc)) in
    let any = c.is_one_enough-any.result in
    let asks = c.parts_settle.new.asks.items in
    c.offer_met.ensures
    ∙ ap (λ xs. take 256 (menu_seen c.args.menu.now.items ++ map (extended (item_seen c.args.item.now))
    (from_each (λ id. cond (joined any (map (met_value id) xs)) ([] ∷ []) []) 0 c.ids_of-ids.result.now)))
    c.as_slice.ensures.value
    ∙ ap (λ ps. take 256 (menu_seen c.args.menu.now.items ++ map (extended (item_seen c.args.item.now)) ps))
    (asked_offers c.in-Some.settled any (λ id. joined any (map (met_value id) asks)) c.ids_of-ids.result.now
    c.if-settled.false
    ∙ part_offers s c.args.scope.now (guard_meant c.args.guard.now)
    (record { settled = c.in-Some.settled; any = any }) asks c.ids_of-ids.result.now cards
    c.parts_settle.ensures.sought c.ids_of-ids.ensures.ids
    (whole_told s c.args.scope.now c.args.guard.now c.split_of-split.result.parts.now any c.in-Some.settled asks
    (subst (λ then. MatchOption then (c.split_of-split.result.parts.now ≡ c.args.guard.now.parts.items)
    (λ t. Follows c.args.guard.now c.split_of-split.result.parts.now t.now)) c.in-None.is
    c.split_of-split.ensures.split) c.is_one_enough-any.ensures c.in-Some.ensures.joined))
