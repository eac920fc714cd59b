use Rattle.std.proofs.Common.{ap, sym, ◌∙◌, take, [], ◌∷◌, ◌++◌}
use Rattle.std.proofs.lemmas.List.{map-append, take_more}
use Rattle.rc_rules.specs.Menu.{item_seen, menu_seen}
use Rattle.rc_flat.proofs.stand.write_menu.Goals as goal

pub loop-item-preserved : goal.loop-item-preserved
loop-item-preserved c =
    let items = c.as_slice-item-items.result.now in
    let before = take c.loop-item.item-index items in
    ap menu_seen c.push.ensures.items
    ∙ map-append item_seen c.loop-item.to.items (c.copy.result ∷ [])
    ∙ ap (λ seen. seen ++ item_seen c.copy.result ∷ []) c.loop-item.invariant
    ∙ ap (λ last. menu_seen before ++ last ∷ []) (c.copy.ensures ∙ ap item_seen c.item-item.is)
    ∙ sym (map-append item_seen before (_ ∷ []))
    ∙ ap menu_seen (sym (take_more items c.loop-item.item-index c.item-item.result c.loop-item-test.true))
