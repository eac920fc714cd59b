use Rattle.std.proofs.Common.{◌++◌, [], map, take, refl, ap, sym, ◌∙◌}
use Rattle.rc_play_spec.specs.Scene.{id_of}
use Rattle.rc_rules.specs.Menu.{item_seen, menu_seen}
use Rattle.rc_menu.specs.Asks.{met_value}
use Rattle.rc_menu.specs.Following.{has_value_in, passes_test}
use Rattle.rc_menu.specs.Menu.{extended}
use Rattle.rc_value.specs.Scene.{scene_seen}
use Rattle.rc_value.proofs.RowLemmas.{met_in_row}
use Rattle.rc_menu.proofs.FollowingLemmas.{passing_offers}
use Rattle.rc_menu.proofs.following.offer_passing.Goals as goal

pub returns-in-Value-clause-done : goal.returns-in-Value-clause-done
returns-in-Value-clause-done c = λ so cards ids.
    c.offer_or_all.ensures
    ∙ ap (λ ps. take 256 (menu_seen c.args.menu.now.items ++ map (extended (item_seen c.args.item.now)) ps))
    (passing_offers (has_value_in c.in-Value.row.now c.in-Value.value) (passes_test (scene_seen c.args.scene.now)
    c.args.card_test.now) c.args.ids.now cards ids
    (λ card. ap (met_value (id_of card)) (sym c.in-Value.is) ∙ c.ask_in.ensures.value (id_of card)
    ∙ met_in_row c.args.scene.now c.wanted_by-wanted.result card c.in-Some.row.now c.in-Some.ensures
    ∙ sym (c.wanted_by-wanted.ensures 0 [] refl card)))
