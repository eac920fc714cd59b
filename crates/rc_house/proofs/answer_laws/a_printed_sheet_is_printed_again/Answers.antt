use Rattle.rc_house.proofs.PrintedTwice.{printed_twice}
use Rattle.rc_house.proofs.answer_laws.a_printed_sheet_is_printed_again.Goals as goal

pub returns : goal.returns
returns c = printed_twice
