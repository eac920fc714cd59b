use Rattle.std.proofs.Common.{arith, ap, ◌∙◌}
use Rattle.std.proofs.lemmas.List.{length-map, map-append}
use Rattle.rc_rules.specs.Menu.{item_seen, menu_seen}
use Rattle.rc_menu.proofs.Offers.{put_more}
use Rattle.rc_menu.proofs.menu.put_bare.Goals as goal

pub returns : goal.returns
returns c =
    let n = length-map c.args.menu.now.items item_seen in
    put_more (menu_seen c.args.menu.now.items) (menu_seen c.push.new.self.items) _ _
    (ap menu_seen c.push.ensures.items ∙ map-append item_seen c.args.menu.now.items _) (omega (arith, c.requires.free))
    c.first_item.ensures
