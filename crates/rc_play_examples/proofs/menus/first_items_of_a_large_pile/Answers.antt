use Rattle.std.proofs.Common.{refl}
use Rattle.std.specs.Fmt.{digits}
use Rattle.rc_sheet.specs.ReadSheet.{setup_form_at, game_parts, sheet_at}
use Rattle.rc_sheet.specs.ReadExpressions.{side_word}
use Rattle.rc_sheet.specs.ReadSetup.{count_at, team_at, deck_at, points_at, players_line, teams_line, deck_line, points_line, line_at}
use Rattle.rc_sheet.specs.ReadNames.{name_at, binder_at, variable_in, player_at, owner_at, loc_parts, loc_at, num_parts, num_at, map_at}
use Rattle.rc_play_examples.proofs.menus.first_items_of_a_large_pile.Goals as goal

pub returns-clause-last_of_the_pile : goal.returns-clause-last_of_the_pile
unfolding digits setup_form_at game_parts sheet_at side_word count_at team_at deck_at points_at players_line teams_line deck_line points_line line_at name_at binder_at variable_in player_at owner_at loc_parts loc_at num_parts num_at map_at
returns-clause-last_of_the_pile c = refl

pub returns-clause-first_of_the_pile : goal.returns-clause-first_of_the_pile
unfolding digits setup_form_at game_parts sheet_at side_word count_at team_at deck_at points_at players_line teams_line deck_line points_line line_at name_at binder_at variable_in player_at owner_at loc_parts loc_at num_parts num_at map_at
returns-clause-first_of_the_pile c = refl
