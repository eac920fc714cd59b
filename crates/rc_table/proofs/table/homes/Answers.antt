use Rattle.std.proofs.Common.{ℕ, List, length, get_or, arith, ap, ap₂, ◌∙◌}
use Rattle.std.proofs.lemmas.List.FromFn.{length-map-range_with_len}
use Rattle.rc_table.proofs.Homes.{begun, no_card, one_more, begun_few, home_within, room_at_home}
use Rattle.rc_table.proofs.table.homes.Goals as goal

abbrev get_or_zero : List ℕ → ℕ → ℕ
get_or_zero room at = get_or room at 0

pub put_on-requires-clause-list : goal.put_on-requires-clause-list
put_on-requires-clause-list c =
    let shape = c.args.shape.now in
    let within = home_within shape c.loop-id.id c.requires (omega (arith, c.cards-id-end.ensures)) in
    let long = ap length c.loop-id.invariant.all ∙ length-map-range_with_len (begun shape.home c.loop-id.id) 0 (length shape.places) in
    omega (arith, within, long, c.home-home.ensures)

pub put_on-requires-clause-room : goal.put_on-requires-clause-room
put_on-requires-clause-room c =
    let shape = c.args.shape.now in
    let cards = c.cards-id-end.ensures in
    let within = home_within shape c.loop-id.id c.requires (omega (arith, cards)) in
    let few = begun_few shape.home c.loop-id.id (length shape.places) c.home-home.result c.loop-id.lists.all c.loop-id.invariant.all (omega (arith, within, c.home-home.ensures)) in
    let room = ap₂ get_or_zero c.loop-id.invariant.room c.home-home.ensures ∙ room_at_home shape c.loop-id.id c.requires (omega (arith, cards)) in
    omega (arith, few, cards, c.loop-id-test.true, room)

pub loop-id-init : goal.loop-id-init
loop-id-init c =
    let shape = c.args.shape.now in
    let made = c.in_ok-lists.ensures in
    record {
      all = ap (λ lists. lists.all) made ∙ no_card shape.home 0 (length shape.places);
      room = ap (λ lists. lists.room) made;
    }

pub loop-id-preserved : goal.loop-id-preserved
loop-id-preserved c =
    let shape = c.args.shape.now in
    let id = c.loop-id.id in
    let home = c.home-home.ensures in
    let within = home_within shape id c.requires (omega (arith, c.cards-id-end.ensures)) in
    record {
      all = ap (λ lists. lists.all) c.put_on.ensures.lists ∙ rw home (one_more shape.home id (length shape.places) c.loop-id.lists.all c.loop-id.invariant.all within);
      room = ap (λ lists. lists.room) c.put_on.ensures.lists ∙ c.loop-id.invariant.room;
    }
