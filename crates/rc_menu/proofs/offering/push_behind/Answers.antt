use Rattle.std.proofs.Common.{◌++◌, ◌∷◌, [], ap, ◌∙◌}
use Rattle.std.proofs.lemmas.List.{map-append}
use Rattle.rc_rules.specs.Menu.{item_seen, menu_seen}
use Rattle.rc_menu.proofs.offering.push_behind.Goals as goal

pub returns : goal.returns
returns c =
    ap menu_seen c.push.ensures.items ∙ map-append item_seen c.args.menu.now.items _
    ∙ ap (λ i. menu_seen c.args.menu.now.items ++ i ∷ []) c.with_spot.ensures
