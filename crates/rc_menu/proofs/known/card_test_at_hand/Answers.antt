use Rattle.std.proofs.Common.{sym}
use Rattle.rc_menu.proofs.known.card_test_at_hand.Goals as goal

pub returns-in-Some : goal.returns-in-Some
returns-in-Some c = c.in-Some.ensures c.args.scope.now (sym c.len.ensures)
