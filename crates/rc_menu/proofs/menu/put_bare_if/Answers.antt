use Rattle.std.proofs.Common.{◌++◌, ◌∷◌, [], if◌then◌else◌, take, arith, ap, sym, ◌∙◌}
use Rattle.std.proofs.lemmas.List.{length-map}
use Rattle.rc_play_spec.specs.Menu.{Item as PureItem}
use Rattle.rc_rules.specs.Menu.{item_seen, menu_seen}
use Rattle.rc_menu.proofs.Offers.{put_nothing}
use Rattle.rc_menu.proofs.menu.put_bare_if.Goals as goal

pub returns-else-passes : goal.returns-else-passes
returns-else-passes c =
    let n = length-map c.args.menu.now.items item_seen in
    let item : PureItem = record { alt = c.args.alt; spots = [] } in
    put_nothing (menu_seen c.args.menu.now.items) (omega (arith, c.requires.free))
    ∙ ap (λ b. take 256 (menu_seen c.args.menu.now.items ++ (if b then item ∷ [] else [])))
    (sym c.if-passes.false)
