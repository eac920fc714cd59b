use Rattle.std.proofs.Common.{◌≡◌, ◌<◌, rules, length, slice_index_or, ap, ◌∙◌}
use Rattle.rc_value.specs.Cards.{values_seen}
use Rattle.rc_value.proofs.MemberLemmas.{card_there}
use Rattle.rc_value.proofs.members.card_at.Goals as goal

pub returns-in-Some : goal.returns-in-Some
returns-in-Some c =
    let a = c.in-Some.ensures.lookup in
    let cards = c.as_slice.result.now in
    let lt : c.args.spot < length cards = search rules in
    let is : c.in-Some.card.now ≡ slice_index_or cards c.args.spot c.in-Some.card.now = search rules in
    card_there cards _ c.args.spot c.in-Some.card.now (ap values_seen c.as_slice.ensures.value ∙ c.cards_now.ensures.cards) lt is
