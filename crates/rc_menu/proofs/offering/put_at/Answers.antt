use Rattle.std.proofs.Common.{◌∷◌, [], arith, ap, sym, ◌∙◌}
use Rattle.std.proofs.lemmas.List.{length-map, map-append}
use Rattle.rc_rules.specs.Menu.{item_seen, menu_seen}
use Rattle.rc_menu.specs.Menu.{extended}
use Rattle.rc_menu.proofs.Offers.{put_more, extended_none, first_extended}
use Rattle.rc_menu.proofs.offering.put_at.Goals as goal

pub returns-then-is_bare-clause-menu : goal.returns-then-is_bare-clause-menu
returns-then-is_bare-clause-menu c =
    let n = length-map c.args.menu.now.items item_seen in
    put_more (menu_seen c.args.menu.now.items) (menu_seen c.push.new.self.items) _ _
    (ap menu_seen c.push.ensures.items ∙ map-append item_seen c.args.menu.now.items _) (omega (arith, c.requires.free))
    (first_extended (item_seen c.first_spot.result) c.args.item.now.alt c.args.spot c.args.item.now.spots.items (c.is_bare.ensures c.if-is_bare.true) c.first_spot.ensures
    ∙ sym (extended_none (extended (item_seen c.args.item.now) (c.args.spot ∷ []))))

pub returns-clause-menu : goal.returns-clause-menu
returns-clause-menu c =
    let n = length-map c.args.menu.now.items item_seen in
    put_more (menu_seen c.args.menu.now.items) (menu_seen c.push_behind.new.menu.items) _ _
    c.push_behind.ensures (omega (arith, c.requires.free))
    (sym (extended_none (extended (item_seen c.args.item.now) (c.args.spot ∷ []))))
