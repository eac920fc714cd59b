-- Which forms stand for the setup of a sheet.
use Prim.Native.String.{String}
use Rattle.std.specs.Prelude.{◌≡◌, ℕ, ◌&&◌, ◌||◌, Bool, true, false, if◌then◌else◌, List, [], ◌∷◌, length, codes, bytes_eq, pos, Option, None}
use Rattle.std.specs.Prelude.{Some as Present}
use Rattle.std.specs.List.{AllZip, zip, range_with_len}
use Rattle.rc_base.specs.Tree.{Tree, word, list, Trees, nil, cons}
use Rattle.rc_base.specs.Deck.{Groups, no_group, group, Branches, no_branch, branch, Entry}
use Rattle.rc_sheet_spec.specs.Sheet.{Teams, game_class, DeckLine, Sheet}
use Rattle.rc_sheet_spec.specs.Rows.{◌▸◌, End, Some, Row, Atom}
use Rattle.rc_sheet_spec.specs.Naming.{Naming, Named, Literal, KindOf, loc_class}

-- `(create players n)`
abbrev pub StandsPlayers : ℕ → Tree → Type 0
StandsPlayers players = Row (Atom "create" ▸ Atom "players" ▸ Literal (pos players) ▸ End)

-- p ..
abbrev pub StandsTeam : List ℕ → Trees → Type 0
StandsTeam [] = End
StandsTeam (player ∷ players) = Literal (pos player) ▸ StandsTeam players

-- (p+) ..
abbrev pub StandTeams : Teams → Trees → Type 0
StandTeams [] = End
StandTeams (team ∷ teams) = Row (Some (StandsTeam team)) ▸ StandTeams teams

-- `(create teams (p+)+)`
abbrev pub StandsTeams : Teams → Tree → Type 0
StandsTeams teams = Row (Atom "create" ▸ Atom "teams" ▸ Some (StandTeams teams))

-- GROUP is `(ATTR (BRANCH+))`, and BRANCH is `VALUE` or `(VALUE GROUP+)`
abbrev mutual
  pub StandsGroups : Naming → Groups → Trees → Type 0
  StandsGroups naming no_group = End
  StandsGroups naming (group attr branches rest) =
      Row (Named naming.names.attrs attr ▸ Row (Some (StandsBranches naming branches)) ▸ End) ▸ StandsGroups naming rest

  pub StandsBranches : Naming → Branches → Trees → Type 0
  StandsBranches naming no_branch = End
  StandsBranches naming (branch value no_group rest) = Named naming.names.values value ▸ StandsBranches naming rest
  StandsBranches naming (branch value (group attr branches inner) rest) =
      Row (Named naming.names.values value
      ▸ Row (Named naming.names.attrs attr ▸ Row (Some (StandsBranches naming branches)) ▸ End)
      ▸ StandsGroups naming inner)
      ▸ StandsBranches naming rest

-- `(create deck LOC (deck GROUP+))`, where LOC is `(game KIND NAME)`
abbrev pub StandsDeck : Naming → DeckLine → Tree → Type 0
StandsDeck naming line form =
    Row (Atom "create" ▸ Atom "deck"
    ▸ Row (Atom "game" ▸ KindOf naming line.loc ▸ Named naming.names.locs line.loc ▸ End)
    ▸ Row (Atom "deck" ▸ Some (StandsGroups naming line.groups))
    ▸ End) form
    × (loc_class naming line.loc ≡ Present game_class)

-- VALUE ..
abbrev pub StandValues : Naming → List ℕ → Trees → Type 0
StandValues naming [] = End
StandValues naming (value ∷ values) = Named naming.names.values value ▸ StandValues naming values

-- `(ATTR (VALUE+) n)` ..
abbrev pub StandEntries : Naming → List Entry → Trees → Type 0
StandEntries naming [] = End
StandEntries naming (entry ∷ entries) =
    Row (Named naming.names.attrs entry.attr ▸ Row
    (Some (StandValues naming entry.values)) ▸ Literal entry.points ▸ End)
    ▸ StandEntries naming entries

-- `(put points MAP (ENTRY+))`, which is the map of this number
abbrev pub StandsMap : Naming → ℕ × List Entry → Tree → Type 0
StandsMap naming map =
    Row (Atom "put" ▸ Atom "points" ▸ Named naming.names.maps map.0 ▸ Row (Some (StandEntries naming map.1)) ▸ End)

-- the form is a list that begins with these two atoms
abbrev pub begins_with : String → String → Tree → Bool
begins_with first second (list (cons (word a from to) (cons (word b from' to') trees)) start end) =
    bytes_eq a (codes first) && bytes_eq b (codes second)
begins_with first second form = false

-- the parts that do, in order
abbrev pub lines_with : String → String → Trees → List Tree
lines_with first second nil = []
lines_with first second (cons tree trees) =
    if begins_with first second tree then tree ∷ lines_with first second trees else lines_with first second trees

-- each line begins as one of the four
abbrev pub are_lines : Trees → Bool
are_lines nil = true
are_lines (cons tree trees) =
    (begins_with "create" "players" tree || begins_with "create" "teams" tree
    || begins_with "create" "deck" tree || begins_with "put" "points" tree)
    && are_lines trees

-- one line, where teams are written
abbrev pub team_lines : Option Teams → List Teams
team_lines None = []
team_lines (Present teams) = teams ∷ []

-- each with its number
abbrev pub numbered : {A : Type 0} → List A → List (ℕ × A)
numbered all = zip (range_with_len 0 (length all)) all

-- Setup lines stand in any order: one for the players, one for the teams where they are written, and one for each deck
-- and each point map, in order.
pub record StandsSetup (naming : Naming) (sheet : Sheet) (lines : Trees) : Type 0 where
  pub lines_alone : are_lines lines ≡ true
  pub players : AllZip StandsPlayers (sheet.players ∷ []) (lines_with "create" "players" lines)
  pub teams : AllZip StandsTeams (team_lines sheet.teams) (lines_with "create" "teams" lines)
  pub decks : AllZip (StandsDeck naming) sheet.decks (lines_with "create" "deck" lines)
  pub points : AllZip (StandsMap naming) (numbered sheet.points) (lines_with "put" "points" lines)
