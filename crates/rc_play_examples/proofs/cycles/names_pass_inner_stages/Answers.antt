use Rattle.std.proofs.Common.{refl}
use Rattle.std.specs.Fmt.{digits}
use Rattle.rc_sheet.specs.ReadSheet.{setup_form_at, game_parts, sheet_at}
use Rattle.rc_sheet.specs.ReadExpressions.{side_word}
use Rattle.rc_sheet.specs.ReadSetup.{count_at, team_at, deck_at, points_at, players_line, teams_line, deck_line, points_line, line_at}
use Rattle.rc_sheet.specs.ReadNames.{name_at, binder_at, variable_in, player_at, owner_at, loc_parts, loc_at, num_parts, num_at, map_at}
use Rattle.rc_play_examples.proofs.cycles.names_pass_inner_stages.Goals as goal

pub returns : goal.returns
unfolding digits setup_form_at game_parts sheet_at side_word count_at team_at deck_at points_at players_line teams_line deck_line points_line line_at name_at binder_at variable_in player_at owner_at loc_parts loc_at num_parts num_at map_at
returns c = refl
