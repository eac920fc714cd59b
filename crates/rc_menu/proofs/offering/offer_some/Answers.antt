use Rattle.std.proofs.Common.{◌++◌, map, take, ap, ◌∙◌}
use Rattle.rc_rules.specs.Menu.{item_seen, menu_seen}
use Rattle.rc_menu.specs.Menu.{extended}
use Rattle.rc_value.specs.Scene.{scene_seen}
use Rattle.rc_menu.proofs.RowOffers.{row_offers}
use Rattle.rc_menu.proofs.offering.offer_some.Goals as goal

pub returns-then-are_sought : goal.returns-then-are_sought
returns-then-are_sought c =
    c.offer_met.ensures
    ∙ ap (λ ps. take 256 (menu_seen c.args.menu.now.items ++ map (extended (item_seen c.args.item.now)) ps))
    (row_offers (scene_seen c.args.scene.now) c.args.scope.now c.args.asks.now c.args.any c.are_sought.result c.in-Some.ids.now c.args.cards.now
    c.are_sought.ensures c.if-are_sought.true c.in-Some.ensures.ids)
