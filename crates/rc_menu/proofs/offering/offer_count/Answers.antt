use Rattle.std.proofs.Common.{◌∷◌, [], get_or, refl, arith, ◌∙◌}
use Rattle.std.proofs.lemmas.List.{length-map}
use Rattle.rc_base.specs.Numbers.{below}
use Rattle.rc_deck.proofs.RangeLemmas.{below_length}
use Rattle.rc_rules.specs.Menu.{item_seen, menu_seen}
use Rattle.rc_menu.specs.Menu.{extended}
use Rattle.rc_value.proofs.Lists.{here_is}
use Rattle.rc_menu.proofs.Offers.{offered, offered_all, offered_full}
use Rattle.rc_menu.proofs.offering.offer_count.Goals as goal

pub loop-place-preserved : goal.loop-place-preserved
loop-place-preserved c =
    let n = below_length c.args.count in
    record {
      free = c.put_at.ensures.free c.if-put_at.false;
      told =
          offered (λ n. [] ∷ []) (item_seen c.args.item.now) (extended (item_seen c.args.item.now) (c.loop-place.place ∷ [])) (menu_seen c.loop-place.menu.items) (menu_seen c.put_at.new.menu.items) _
          (below c.args.count) c.loop-place.place (get_or (below c.args.count) c.loop-place.place 0) (omega (arith, c.loop-place-test.true))
          (here_is (below c.args.count) c.loop-place.place 0 (omega (arith, c.loop-place-test.true))) refl c.put_at.ensures.menu c.loop-place.invariant.told;
    }

pub returns-then-put_at : goal.returns-then-put_at
returns-then-put_at c =
    let n = below_length c.args.count in
    offered_full (menu_seen c.put_at.new.menu.items) _ _ (length-map c.put_at.new.menu.items item_seen ∙ c.put_at.ensures.full c.if-put_at.true)
    (offered (λ n. [] ∷ []) (item_seen c.args.item.now) (extended (item_seen c.args.item.now) (c.loop-place.place ∷ [])) (menu_seen c.loop-place.menu.items) (menu_seen c.put_at.new.menu.items) _
    (below c.args.count) c.loop-place.place (get_or (below c.args.count) c.loop-place.place 0) (omega (arith, c.loop-place-test.true))
    (here_is (below c.args.count) c.loop-place.place 0 (omega (arith, c.loop-place-test.true))) refl c.put_at.ensures.menu c.loop-place.invariant.told)

pub returns : goal.returns
returns c =
    let n = below_length c.args.count in
    let count = length-map c.loop-place.menu.items item_seen in
    offered_all (λ n. [] ∷ []) (item_seen c.args.item.now) (menu_seen c.loop-place.menu.items) _ (below c.args.count) c.loop-place.place
    (omega (arith, c.loop-place-test.false)) (omega (arith, c.loop-place.invariant.free)) c.loop-place.invariant.told
