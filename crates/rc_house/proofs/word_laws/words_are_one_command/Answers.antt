use Rattle.rc_house.proofs.OneCommand.{one_command}
use Rattle.rc_house.proofs.word_laws.words_are_one_command.Goals as goal

pub returns : goal.returns
returns c = one_command
