-- Names, owners and locations as the pure trees have them.
use Rattle.rc_sheet_spec.specs.Sheet.{game, current_player, current_team, team_of_current, team_of_var, who_var}
use Rattle.rc_sheet_spec.specs.Sheet.{Names as PureNames, LocName as PureLocName, NumName as PureNumName, Who as PureWho, Loc as PureLoc, Num as PureNum}
use Rattle.rc_ast.specs.declared.names.Names.{Names}
use Rattle.rc_ast.specs.declared.names.LocName.{LocName}
use Rattle.rc_ast.specs.declared.names.NumName.{NumName}
use Rattle.rc_ast.specs.declared.expressions.Who.{Who}
use Rattle.rc_ast.specs.declared.expressions.Who.TheVariants.{Game, CurrentPlayer, CurrentTeam, TeamOfCurrent, TeamOfVar, Var}
use Rattle.rc_ast.specs.declared.expressions.Loc.{Loc}
use Rattle.rc_ast.specs.declared.expressions.Num.{Num}

abbrev pub names_seen : Names → PureNames
names_seen names =
    record {
      attrs = names.attrs.items;
      values = names.values.items;
      maps = names.maps.items;
      locs = names.locs.items;
      nums = names.nums.items;
      vars = names.vars.items;
    }

abbrev pub loc_name_seen : LocName → PureLocName
loc_name_seen name = record { name = name.name; kind = name.kind; class = name.class }

abbrev pub num_name_seen : NumName → PureNumName
num_name_seen name = record { name = name.name; class = name.class }

abbrev pub who_seen : Who → PureWho
who_seen Game = game
who_seen CurrentPlayer = current_player
who_seen CurrentTeam = current_team
who_seen TeamOfCurrent = team_of_current
who_seen (TeamOfVar var) = team_of_var var
who_seen (Var var) = who_var var

abbrev pub loc_seen : Loc → PureLoc
loc_seen loc = record { who = who_seen loc.who; name = loc.name; at = loc.at }

abbrev pub num_seen : Num → PureNum
num_seen num = record { who = who_seen num.who; name = num.name }
