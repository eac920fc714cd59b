-- A setup, and lines of one, as the readings have them.
use Rattle.std.specs.Prelude.{map, option_map}
use Rattle.rc_ast.specs.Sheet.{teams_seen, deck_line_seen}
use Rattle.rc_deck.specs.Points.{entries_of}
use Rattle.rc_sheet.specs.ReadSetup.{Setup as PureSetup, Lines as PureLines}
use Rattle.rc_sheet.specs.declared.setup.Setup.{Setup}
use Rattle.rc_sheet.specs.declared.setup.Lines.{Lines}

abbrev pub setup_seen : Setup → PureSetup
setup_seen setup =
    record {
      players = setup.players;
      teams = option_map teams_seen setup.teams;
      decks = map deck_line_seen setup.decks.items;
      points = map entries_of setup.points.items;
    }

abbrev pub lines_seen : Lines → PureLines
lines_seen lines =
    record {
      players = lines.players;
      teams = option_map teams_seen lines.teams;
      decks = map deck_line_seen lines.decks.items;
      points = map entries_of lines.points.items;
    }
