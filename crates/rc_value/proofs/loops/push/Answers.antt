use Rattle.std.proofs.Common.{◌++◌, ◌∷◌, [], arith, ap, sym, ◌∙◌}
use Rattle.std.proofs.lemmas.List.{length-map, length-append, map-append, take_all, take-append-le}
use Rattle.rc_value.specs.Cards.{value_seen, values_seen}
use Rattle.rc_value.proofs.loops.push.Goals as goal

pub returns-then-len-lt-MOST_IN_COLLECTION-clause-cards : goal.returns-then-len-lt-MOST_IN_COLLECTION-clause-cards
returns-then-len-lt-MOST_IN_COLLECTION-clause-cards c =
    let old = values_seen c.args.cards.now.items in
    let one = value_seen c.args.card ∷ [] in
    let n = length-map c.args.cards.now.items value_seen in
    let few = c.len.ensures.value in
    ap values_seen c.push.ensures.items ∙ map-append value_seen c.args.cards.now.items (c.args.card ∷ [])
    ∙ sym (take_all 512 (old ++ one) (omega (arith, length-append old one)))

pub returns-else-len-lt-MOST_IN_COLLECTION-clause-cards : goal.returns-else-len-lt-MOST_IN_COLLECTION-clause-cards
returns-else-len-lt-MOST_IN_COLLECTION-clause-cards c =
    let old = values_seen c.args.cards.now.items in
    let one = value_seen c.args.card ∷ [] in
    let n = length-map c.args.cards.now.items value_seen in
    let few = c.len.ensures.value in
    let fits = c.len.ensures.fits in
    sym (take-append-le 512 old one (omega arith) ∙ take_all 512 old (omega arith))
