use Rattle.rc_play_spec.proofs.Judged.{read_back}
use Rattle.rc_play_spec.proofs.Played.{played_house}
use Rattle.rc_play_spec.proofs.what_is_played.what_is_played_is_read_back.Goals as goal

pub returns-clause-house : goal.returns-clause-house
returns-clause-house c = λ about plan is. played_house about plan is

pub returns-clause-read : goal.returns-clause-read
returns-clause-read c = λ about plan is. read_back about plan is
