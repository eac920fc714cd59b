use Rattle.std.proofs.Common.{◌∷◌, [], cond, get_or, refl, arith, ◌∙◌}
use Rattle.std.proofs.lemmas.List.{length-map}
use Rattle.std.specs.Prelude.{slice_index_or, Some, None}
use Rattle.rc_play_spec.specs.Value.{both, nat_same}
use Rattle.rc_rules.specs.Menu.{item_seen, menu_seen}
use Rattle.rc_menu.specs.Menu.{extended}
use Rattle.rc_value.proofs.Lists.{here_is}
use Rattle.rc_menu.proofs.AskLemmas.{grown_if}
use Rattle.rc_menu.proofs.Offers.{offered, offered_all, offered_full}
use Rattle.rc_menu.proofs.offering.offer_having.Goals as goal

pub loop-place-preserved : goal.loop-place-preserved
loop-place-preserved c = record {
  free = c.put_at_if.ensures.free c.if-put_at_if.false;
  told =
      offered (λ id. cond (both nat_same (slice_index_or c.args.row.now id None) (Some c.args.value)) ([] ∷ []) []) (item_seen c.args.item.now) (extended (item_seen c.args.item.now) (c.loop-place.place ∷ [])) (menu_seen c.loop-place.menu.items) (menu_seen c.put_at_if.new.menu.items) _
      c.args.ids.now c.loop-place.place (get_or c.args.ids.now c.loop-place.place 0) c.loop-place-test.true (here_is c.args.ids.now c.loop-place.place 0 c.loop-place-test.true) refl
      (grown_if (menu_seen c.loop-place.menu.items) (menu_seen c.put_at_if.new.menu.items) (extended (item_seen c.args.item.now) (c.loop-place.place ∷ [])) c.has_value-passes.result _ c.has_value-passes.ensures c.put_at_if.ensures.menu)
      c.loop-place.invariant.told;
}

pub returns-then-put_at_if : goal.returns-then-put_at_if
returns-then-put_at_if c =
    offered_full (menu_seen c.put_at_if.new.menu.items) _ _ (length-map c.put_at_if.new.menu.items item_seen ∙ c.put_at_if.ensures.full c.if-put_at_if.true)
    (offered (λ id. cond (both nat_same (slice_index_or c.args.row.now id None) (Some c.args.value)) ([] ∷ []) []) (item_seen c.args.item.now) (extended (item_seen c.args.item.now) (c.loop-place.place ∷ [])) (menu_seen c.loop-place.menu.items) (menu_seen c.put_at_if.new.menu.items) _
    c.args.ids.now c.loop-place.place (get_or c.args.ids.now c.loop-place.place 0) c.loop-place-test.true (here_is c.args.ids.now c.loop-place.place 0 c.loop-place-test.true) refl
    (grown_if (menu_seen c.loop-place.menu.items) (menu_seen c.put_at_if.new.menu.items) (extended (item_seen c.args.item.now) (c.loop-place.place ∷ [])) c.has_value-passes.result _ c.has_value-passes.ensures c.put_at_if.ensures.menu)
    c.loop-place.invariant.told)

pub returns : goal.returns
returns c =
    let count = length-map c.loop-place.menu.items item_seen in
    offered_all (λ id. cond (both nat_same (slice_index_or c.args.row.now id None) (Some c.args.value)) ([] ∷ []) []) (item_seen c.args.item.now) (menu_seen c.loop-place.menu.items) _ c.args.ids.now c.loop-place.place
    c.loop-place-test.false (omega (arith, c.loop-place.invariant.free)) c.loop-place.invariant.told
