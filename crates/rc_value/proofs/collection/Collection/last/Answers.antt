use Rattle.std.proofs.Common.{arith}
use Rattle.rc_value.specs.Cards.{value_seen}
use Rattle.rc_value.proofs.Lists.{last_is}
use Rattle.rc_value.proofs.collection.Collection.last.Goals as goal

pub returns : goal.returns
returns c = last_is c.args.self.now _ (value_seen c.at.result) (omega (arith, c.len-count.ensures.count)) c.at.ensures
