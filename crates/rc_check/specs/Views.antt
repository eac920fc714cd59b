-- The fields of what the walk keeps.
use Rattle.std.specs.Prelude.{map}
use Rattle.rc_sheet_spec.specs.WellFormed.{Around as PureAround}
use Rattle.rc_check.specs.Seen.{variable_seen, mention_seen}
use Rattle.rc_check.specs.Summary.{Owned as PureOwned, Whole as PureWhole, Summary as PureSummary}
use Rattle.rc_check.specs.declared.around.Around.TheInside.{Inside as AroundFields}
use Rattle.rc_check.specs.declared.owned.Owned.TheInside.{Inside as OwnedFields}
use Rattle.rc_check.specs.declared.whole.Whole.TheInside.{Inside as WholeFields}
use Rattle.rc_check.specs.declared.summary.Summary.TheInside.{Inside as SummaryFields}

abbrev pub around_seen : AroundFields → PureAround
around_seen around =
    record {
      scope = map variable_seen around.scope.items;
      binders = around.binders;
      player_stage = around.player_stage;
      team_stage = around.team_stage;
      repeats = around.repeats;
    }

abbrev pub owned_seen : OwnedFields → PureOwned
owned_seen owned = record { firsts = map mention_seen owned.firsts.items; total = owned.total }

abbrev pub whole_seen : WholeFields → PureWhole
whole_seen whole =
    record {
      players = whole.players;
      teams = whole.teams;
      attributes = whole.attributes;
      values = whole.values;
      maps = whole.maps;
      has_deck = whole.has_deck;
    }

abbrev pub summary_seen : SummaryFields → PureSummary
summary_seen seen =
    record {
      has_players = seen.has_players;
      has_teams = seen.has_teams;
      in_first_teams = seen.in_first_teams;
      members = seen.members.items;
      maps = seen.maps;
      attributes = seen.attributes;
      values = seen.values;
      locations = seen.locations;
      numbers = seen.numbers;
      cards = seen.cards;
      stages = seen.stages;
      choices = seen.choices;
    }
