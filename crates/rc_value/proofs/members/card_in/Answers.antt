use Rattle.std.proofs.Common.{arith}
use Rattle.rc_value.specs.Cards.{value_seen}
use Rattle.rc_value.proofs.MemberLemmas.{card_listed, no_card}
use Rattle.rc_value.proofs.members.card_in.Goals as goal

pub returns-then-spot-len : goal.returns-then-spot-len
returns-then-spot-len c =
    card_listed c.args.cards.now c.args.spot (value_seen c.at.result) (omega (arith, c.if-spot-len.true, c.len.ensures.count)) c.at.ensures

pub returns-else-spot-len : goal.returns-else-spot-len
returns-else-spot-len c = no_card c.args.cards.now c.args.spot (omega (arith, c.if-spot-len.false, c.len.ensures.count))
