use Rattle.std.proofs.Common.{arith}
use Rattle.rc_menu.proofs.known.known_at_hand.Goals as goal

pub returns-in-Some : goal.returns-in-Some
returns-in-Some c = λ vars few. c.in-Some.ensures vars (omega (arith, few, c.len.ensures))
