use Rattle.rc_rules.specs.Menu.{item_seen}
use Rattle.rc_menu.proofs.Offers.{first_extended, second_extended}
use Rattle.rc_menu.proofs.offering.with_spot.Goals as goal

pub returns-then-is_bare : goal.returns-then-is_bare
returns-then-is_bare c =
    first_extended (item_seen c.first_spot.result) c.args.item.now.alt c.args.spot c.args.item.now.spots.items
    (c.is_bare.ensures c.if-is_bare.true) c.first_spot.ensures

pub returns-in-Some : goal.returns-in-Some
returns-in-Some c =
    second_extended (item_seen c.second_spot.result) c.args.item.now.alt c.in-Some.first c.args.spot c.args.item.now.spots.items
    c.in-Some.ensures c.second_spot.ensures
