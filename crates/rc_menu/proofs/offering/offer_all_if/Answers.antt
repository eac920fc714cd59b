use Rattle.std.proofs.Common.{◌++◌, [], ◌∷◌, cond, map, take, arith, ap, sym, ◌∙◌}
use Rattle.std.proofs.lemmas.List.{length-map}
use Rattle.rc_base.specs.Numbers.{below}
use Rattle.rc_play_spec.specs.Menu.{from_each}
use Rattle.rc_rules.specs.Menu.{item_seen, menu_seen}
use Rattle.rc_menu.specs.Menu.{extended}
use Rattle.rc_menu.proofs.Offers.{none_each, put_nothing}
use Rattle.rc_menu.proofs.offering.offer_all_if.Goals as goal

pub returns-then-all : goal.returns-then-all
returns-then-all c =
    c.offer_count.ensures
    ∙ ap (λ all. take 256 (menu_seen c.args.menu.now.items ++ map (extended (item_seen c.args.item.now))
    (from_each (λ n. cond all ([] ∷ []) []) 0 (below c.args.count)))) (sym c.if-all.true)

pub returns-else-all : goal.returns-else-all
returns-else-all c =
    let n = length-map c.args.menu.now.items item_seen in
    put_nothing (menu_seen c.args.menu.now.items) (omega (arith, c.requires.free, n))
    ∙ ap (λ ps. take 256 (menu_seen c.args.menu.now.items ++ map (extended (item_seen c.args.item.now)) ps))
    (sym (none_each 0 (below c.args.count)))
    ∙ ap (λ all. take 256 (menu_seen c.args.menu.now.items ++ map (extended (item_seen c.args.item.now))
    (from_each (λ n. cond all ([] ∷ []) []) 0 (below c.args.count)))) (sym c.if-all.false)
