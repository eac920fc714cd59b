-- A sheet as the pure tree has it.
use Rattle.std.specs.Prelude.{map, option_map}
use Rattle.rc_deck.specs.Tree.{groups_of}
use Rattle.rc_deck.specs.Points.{entries_of}
use Rattle.rc_sheet_spec.specs.Sheet.{highest, lowest}
use Rattle.rc_sheet_spec.specs.Sheet.{Teams as PureTeams, Best as PureBest, DeckLine as PureDeckLine, Sheet as PureSheet}
use Rattle.rc_ast.specs.declared.sheet.Teams.{Teams}
use Rattle.rc_ast.specs.declared.sheet.Best.{Best}
use Rattle.rc_ast.specs.declared.sheet.Best.TheVariants.{Max, Min}
use Rattle.rc_ast.specs.declared.sheet.DeckLine.{DeckLine}
use Rattle.rc_ast.specs.declared.sheet.Sheet.{Sheet}
use Rattle.rc_ast.specs.Names.{names_seen, loc_name_seen, num_name_seen}
use Rattle.rc_ast.specs.Expressions.{int_seen}
use Rattle.rc_ast.specs.Items.{items_seen}

abbrev pub teams_seen : Teams → PureTeams
teams_seen teams = map (λ players. players.items) teams.list.items

abbrev pub best_seen : Best → PureBest
best_seen Max = highest
best_seen Min = lowest

abbrev pub deck_line_seen : DeckLine → PureDeckLine
deck_line_seen line = record { loc = line.loc; groups = groups_of line.tree }

abbrev pub sheet_seen : Sheet → PureSheet
sheet_seen sheet =
    record {
      players = sheet.players;
      teams = option_map teams_seen sheet.teams;
      names = names_seen sheet.names;
      decks = map deck_line_seen sheet.decks.items;
      points = map entries_of sheet.points.items;
      locs = map loc_name_seen sheet.locs.items;
      nums = map num_name_seen sheet.nums.items;
      items = items_seen sheet.items.items;
      best = best_seen sheet.best;
      score = int_seen sheet.score;
    }
