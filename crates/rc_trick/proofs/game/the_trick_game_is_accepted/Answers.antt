use Rattle.rc_trick.proofs.Accepted.{some_game, one_game, game_players, no_form_fault, one_form, no_fault, no_sight_fault, read_game}
use Rattle.rc_trick.proofs.game.the_trick_game_is_accepted.Goals as goal

pub returns-clause-some : goal.returns-clause-some
returns-clause-some c = some_game

pub returns-clause-one : goal.returns-clause-one
returns-clause-one c = one_game

pub returns-clause-players : goal.returns-clause-players
returns-clause-players c = game_players

pub returns-clause-no_form_fault : goal.returns-clause-no_form_fault
returns-clause-no_form_fault c = no_form_fault

pub returns-clause-one_form : goal.returns-clause-one_form
returns-clause-one_form c = one_form

pub returns-clause-no_part_fault : goal.returns-clause-no_part_fault
returns-clause-no_part_fault c = no_fault

pub returns-clause-no_sight_fault : goal.returns-clause-no_sight_fault
returns-clause-no_sight_fault c = no_sight_fault

pub returns-clause-game : goal.returns-clause-game
returns-clause-game c = read_game
