use Rattle.std.proofs.Common.{◌++◌, map, take, ap, ◌∙◌}
use Rattle.rc_rules.specs.Menu.{item_seen, menu_seen}
use Rattle.rc_menu.specs.declared.asks.SoughtCard.TheVariants.{Value}
use Rattle.rc_menu.specs.Menu.{extended}
use Rattle.rc_menu.proofs.RowOffers.{sole_offers}
use Rattle.rc_menu.proofs.offering.offer_met.Goals as goal

pub returns-in-Some : goal.returns-in-Some
returns-in-Some c =
    c.offer_having.ensures
    ∙ ap (λ ps. take 256 (menu_seen c.args.menu.now.items ++ map (extended (item_seen c.args.item.now)) ps))
    (sole_offers (Value c.in-Some.value c.in-Some.row) c.args.any c.args.asks.now c.args.ids.now c.in-Some.ensures)
