use Rattle.std.proofs.Common.{◌++◌, ◌∷◌, [], cond, length, map, take, ap, sym, ◌∙◌}
use Rattle.std.proofs.lemmas.List.{length-map}
use Rattle.rc_sheet_spec.specs.Sheet.{any_alt, cards_in}
use Rattle.rc_play_spec.specs.Menu.{spots_of}
use Rattle.rc_play_spec.specs.Scene.{id_of}
use Rattle.rc_play_spec.specs.Value.{coll_value, test_value}
use Rattle.rc_ast.specs.Names.{loc_seen}
use Rattle.rc_ast.specs.Expressions.{domain_seen, test_seen}
use Rattle.rc_ast.specs.Items.{alt_seen}
use Rattle.rc_rules.specs.Menu.{item_seen, menu_seen}
use Rattle.rc_menu.specs.Menu.{extended}
use Rattle.rc_value.specs.Scene.{scene_seen}
use Rattle.rc_menu.proofs.Offers.{bare_if, counted_each, offered_do}
use Rattle.rc_menu.proofs.menu.offer_bare.Goals as goal

pub returns-in-Do : goal.returns-in-Do
returns-in-Do c =
    let old = menu_seen c.args.menu.now.items in
    let item = item_seen c.args.item.now in
    let scene = scene_seen c.args.scene.now in
    c.put_bare.ensures
    ∙ ap (λ xs. take 256 (old ++ record { alt = c.args.item.now.alt; spots = xs ++ [] } ∷ [])) (sym c.requires.bare)
    ∙ ap (λ a. take 256 (old ++ map (extended item) (spots_of scene c.args.scope.now (alt_seen a)))) (sym c.in-Do.is)

pub returns-in-If : goal.returns-in-If
returns-in-If c =
    let old = menu_seen c.args.menu.now.items in
    let item = item_seen c.args.item.now in
    let scene = scene_seen c.args.scene.now in
    let vars = c.args.scope.now in
    c.put_bare_if.ensures
    ∙ ap (λ xs. take 256 (old ++ xs)) (bare_if item c.test_of.result c.requires.bare
    ∙ ap (λ b. map (extended item) (cond b ([] ∷ []) []))
    (c.test_of.ensures ∙ ap (λ t. test_value scene vars (test_seen t)) c.deref.ensures))
    ∙ ap (λ a. take 256 (old ++ map (extended item) (spots_of scene vars (alt_seen a)))) (sym c.in-If.is)

pub returns-in-Some : goal.returns-in-Some
returns-in-Some c =
    let scene = scene_seen c.args.scene.now in
    let vars = c.args.scope.now in
    let free = c.in-Some.ensures in
    let cards = coll_value scene vars (cards_in (loc_seen c.in-Some.loc.now)) in
    let count = ap length c.ids_of.ensures.ids ∙ length-map cards id_of in
    c.offer_count.ensures
    ∙ ap (λ ps. take 256 (menu_seen c.args.menu.now.items ++ map (extended (item_seen c.args.item.now)) ps))
    (counted_each (length c.ids_of.result.now) cards count
    ∙ offered_do scene vars (alt_seen c.deref-in-Any.result.now) free.0 cards free.2
    ∙ ap (λ d. spots_of scene vars (any_alt d c.in-Any.field-1 (alt_seen c.deref-in-Any.result.now))) (sym free.1)
    ∙ ap (λ x. spots_of scene vars (any_alt (domain_seen c.in-Any.domain) c.in-Any.field-1 (alt_seen x)))
    c.deref-in-Any.ensures
    ∙ ap (λ a. spots_of scene vars (alt_seen a)) (sym c.in-Any.is))
