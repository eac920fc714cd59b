use Rattle.std.proofs.Common.{◌++◌, ◌∷◌, [], true, false, cond, map, take, arith, ap, sym, ◌∙◌}
use Rattle.std.proofs.lemmas.List.{length-map}
use Rattle.rc_ast.specs.Expressions.{test_seen}
use Rattle.rc_play_spec.specs.Menu.{from_each}
use Rattle.rc_rules.specs.Menu.{item_seen, menu_seen}
use Rattle.rc_menu.specs.Asks.{ask_value, joined, told_of}
use Rattle.rc_menu.specs.Menu.{extended}
use Rattle.rc_value.specs.Scene.{scene_seen}
use Rattle.rc_menu.proofs.AskLemmas.{told_settled, told_asked}
use Rattle.rc_menu.proofs.Offers.{counted_each, put_nothing, none_each, same_offers}
use Rattle.rc_menu.proofs.offering.offer_guarded.Goals as goal

pub returns-then-not-parts : goal.returns-then-not-parts
returns-then-not-parts c =
    c.offer_some.ensures
    ∙ ap (λ xs. take 256 (menu_seen c.args.menu.now.items ++ map (extended (item_seen c.args.item.now)) (from_each (λ x. cond (joined c.parts_of-parts.result.any (map (ask_value (scene_seen c.args.scene.now) c.args.scope.now x) xs)) ([] ∷ []) []) 0 c.args.cards.now))) c.as_slice.ensures.value
    ∙ ap (λ ps. take 256 (menu_seen c.args.menu.now.items ++ map (extended (item_seen c.args.item.now)) ps))
    (same_offers (λ x. joined c.parts_of-parts.result.any (map (ask_value (scene_seen c.args.scene.now) c.args.scope.now x) c.parts_of-parts.new.asks.items)) (told_of (scene_seen c.args.scene.now) c.args.scope.now (test_seen c.args.guard.now)) c.args.cards.now
    (λ x. sym (told_asked _ _ _ _ c.if-not-parts.true (c.parts_of-parts.ensures.parts x))))

pub returns-then-parts : goal.returns-then-parts
returns-then-parts c =
    c.offer_count.ensures
    ∙ ap (λ ps. take 256 (menu_seen c.args.menu.now.items ++ map (extended (item_seen c.args.item.now)) ps))
    (counted_each c.len.result c.args.cards.now c.len.ensures.count
    ∙ same_offers (λ x. true) (told_of (scene_seen c.args.scene.now) c.args.scope.now (test_seen c.args.guard.now)) c.args.cards.now
    (λ x. sym (told_settled _ _ _ _ c.if-not-parts.false (c.parts_of-parts.ensures.parts x) ∙ c.if-parts.true)))

pub returns-else-parts : goal.returns-else-parts
returns-else-parts c =
    let n = length-map c.args.menu.now.items item_seen in
    put_nothing (menu_seen c.args.menu.now.items) (omega (arith, c.requires.free))
    ∙ ap (λ ps. take 256 (menu_seen c.args.menu.now.items ++ map (extended (item_seen c.args.item.now)) ps))
    (sym (none_each 0 c.args.cards.now) ∙ same_offers (λ x. false) (told_of (scene_seen c.args.scene.now) c.args.scope.now (test_seen c.args.guard.now)) c.args.cards.now
    (λ x. sym (told_settled _ _ _ _ c.if-not-parts.false (c.parts_of-parts.ensures.parts x) ∙ c.if-parts.false)))
