use Rattle.std.proofs.Common.{◌++◌, map, take, ap, ◌∙◌}
use Rattle.rc_rules.specs.Menu.{item_seen, menu_seen}
use Rattle.rc_menu.specs.Menu.{extended}
use Rattle.rc_value.specs.Scene.{scene_seen}
use Rattle.rc_menu.proofs.RowOffers.{guard_offers}
use Rattle.rc_menu.proofs.menu.make_offer.Goals as goal

pub offer_in_parts-requires-clause-fixed : goal.offer_in_parts-requires-clause-fixed
offer_in_parts-requires-clause-fixed c = c.in-Some.ensures.meaning.3

pub returns-else-not-offer_in_parts : goal.returns-else-not-offer_in_parts
returns-else-not-offer_in_parts c =
    c.offer_in_parts.ensures.done c.if-not-offer_in_parts.false
    ∙ ap (λ ps. take 256 (menu_seen c.args.menu.now.items ++ map (extended (item_seen c.args.item.now)) ps))
    (guard_offers (scene_seen c.args.scene.now) c.args.scope.now c.args.one.now c.in-Some.guard.now c.in-Some.ensures.meaning)
