use Rattle.std.proofs.Common.{◌++◌, ◌∷◌, [], cond, take, arith, ap, sym, ◌∙◌}
use Rattle.std.proofs.lemmas.List.{length-map}
use Rattle.rc_rules.specs.Menu.{item_seen, menu_seen}
use Rattle.rc_menu.specs.Menu.{extended}
use Rattle.rc_menu.proofs.Offers.{put_nothing}
use Rattle.rc_menu.proofs.offering.put_at_if.Goals as goal

pub returns-clause-menu : goal.returns-clause-menu
returns-clause-menu c =
    let n = length-map c.args.menu.now.items item_seen in
    put_nothing (menu_seen c.args.menu.now.items) (omega (arith, c.requires.free))
    ∙ ap (λ b. take 256 (menu_seen c.args.menu.now.items ++ cond b (extended (extended (item_seen c.args.item.now) (c.args.spot ∷ [])) [] ∷ []) []))
    (sym c.if-passes.false)
