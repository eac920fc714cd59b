use Rattle.rc_flow.proofs.Unread.{unread_test, unread_card}
use Rattle.rc_flow.proofs.laws.unread_variables_change_nothing.Goals as goal

pub returns-clause-tests : goal.returns-clause-tests
returns-clause-tests c = λ scene outer inner m m' t unread. unread_test scene outer m m' inner t unread

pub returns-clause-cards : goal.returns-clause-cards
returns-clause-cards c = λ scene outer inner m m' e unread. unread_card scene outer m m' inner e unread
