use Rattle.std.proofs.Common.{arith, refl}
use Rattle.std.specs.List.{list_any}
use Rattle.std.proofs.lemmas.List.{length-map}
use Rattle.rc_rules.specs.Menu.{item_seen, menu_seen}
use Rattle.rc_menu.specs.Following.{has_value_in}
use Rattle.rc_menu.proofs.FollowingLemmas.{all_offered, those_offered}
use Rattle.rc_menu.proofs.following.offer_or_all.Goals as goal

pub returns-then-len-before : goal.returns-then-len-before
returns-then-len-before c =
    let old = length-map c.args.menu.now.items item_seen in
    let put = length-map c.offer_having.new.menu.items item_seen in
    all_offered (has_value_in c.args.row.now c.args.value) (item_seen c.args.item.now)
    (menu_seen c.args.menu.now.items) (menu_seen c.offer_having.new.menu.items)
    (omega (arith, c.requires.free, old)) c.args.ids.now c.offer_having.ensures
    (omega (arith, old, put, c.if-len-before.true, c.len.ensures.value, c.len-before.ensures.value)) _
    c.offer_count.ensures

pub returns-else-len-before : goal.returns-else-len-before
returns-else-len-before c =
    let old = length-map c.args.menu.now.items item_seen in
    let put = length-map c.offer_having.new.menu.items item_seen in
    those_offered (has_value_in c.args.row.now c.args.value) (item_seen c.args.item.now)
    (menu_seen c.args.menu.now.items) (menu_seen c.offer_having.new.menu.items)
    (omega (arith, c.requires.free, old)) c.args.ids.now c.offer_having.ensures
    (list_any (has_value_in c.args.row.now c.args.value) c.args.ids.now) refl
    (λ same. absurd (omega (
      arith,
      old,
      put,
      same,
      c.if-len-before.false,
      c.len.ensures.value,
      c.len-before.ensures.value,
    )))
